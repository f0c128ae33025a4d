use Rattle.std.proofs.Common.{ℕ, List, ◌++◌, codes, decimal, true, refl, sym, ap, ◌∙◌, rules}
use Rattle.std.proofs.Output.{has_written_append, has_written_of_eq, has_written_to_eq}
use Rattle.std.specs.List.{join_by}
use Rattle.chart_text.specs.Words.{members_below}
use Rattle.chart_text.proofs.Sets.{none, with_node, without_node, separator, separator_more, join_more}
use Rattle.chart_text.proofs.edges.WordsNodeSetDisplay.fmt.Goals as goal
use Rattle.chart_text.proofs.edges.WordsNodeSetDisplay.fmt.Goals.{then-has+in_ok-write, else-has}

pub loop-node-init : goal.loop-node-init
loop-node-init g c = rw (← none c.args.self.now.0.bits) (search rules)

pub loop-node-preserved : goal.loop-node-preserved
loop-node-preserved g c =
    let bits = c.args.self.now.0.bits in
    let k = c.loop-node.node-counter in
    elim c.if-has.branch [
      | then-has+in_ok-write w ↦
          let more = with_node bits k (sym w.if-has.ensures) in
          let next = ap (λ (s : List ℕ). join_by decimal (codes ", ") (members_below bits k) ++ (s ++ decimal k)) c.loop-node.invariant.next in
          record {
            text = rw w.separator-is (search rules);
            next = rw w.separator-is (separator_more (members_below bits k) k ∙ ap separator more);
            written = λ plain.
                let so_far = c.loop-node.invariant.written plain in
                has_written_of_eq _ _ _ _ _ (next ∙ (join_more (members_below bits k) k ∙ ap (join_by decimal (codes ", ")) more))
                (has_written_to_eq _ _ _ _ _ w.f-is (has_written_append _ _ _ _ _ _ so_far (w.in_ok-write.ensures.writes so_far.plain (refl {a = true}))));
          }
      | else-has w ↦
          let same = without_node bits k (sym w.if-has.ensures) in
          rw (w.separator-is, w.f-is, ← same) c.loop-node.invariant
    ]
