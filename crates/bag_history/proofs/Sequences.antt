-- The law of sequences of calls. Assumes nothing.
use Rattle.std.proofs.Common.{◌≡◌, ℕ, ◌+◌, ◌<◌, Bool, true, cond, ltb, List, [], ◌∷◌, ◌++◌, map, length, get_or, take, drop, set, is_ok, Ok, Err, count_by, Result, sym, refl, ap, ◌∙◌, subst, arith}
use Rattle.std.proofs.lemmas.List.{length-take, take_more, take_more_set, map-append, drop-drop, drop-set-lt}
use Rattle.std.proofs.lemmas.List.Sums.{sum_by-append}
use Rattle.std.proofs.lemmas.Bool.{ltb-true, ltb-false}
use Rattle.bag.specs.declared.refusal.Refusal.{Refusal}
use Rattle.bag_history.specs.declared.Call.{Call}
use Rattle.bag_history.specs.declared.Entry.{Entry}
use Rattle.bag_history.specs.declared.Entry.TheVariants.{Put}
use Rattle.bag.specs.Records.{put_in}
use Rattle.bag.specs.Leaving.{Arranged, PutLaw}
use Rattle.bag_history.specs.History.{asked, came, left, all_of, Happens, Step, Run, Lawful}
use Rattle.bag_history.specs.History.Run.{done, next}
use Rattle.bag.proofs.Leaving.{count_cons, count_any}

module _ {R T : Type 0} (before : R → R → Bool) (tagged : T → R → Bool) where
  pub step_put : (slots : List R) (count : ℕ) (x : R) (r : Result (Unit {0}) Refusal) (ys : List R)
      → is_ok r ≡ ltb count (length slots) → ys ≡ cond (is_ok r) (put_in before x (take count slots)) (take count slots)
      → (is_ok r ≡ true → PutLaw before x (take count slots) ys) → Step before tagged (length slots) (take count slots) (Put x r) ys
  step_put slots count x (Ok u) ys room list law =
      let came-in = law refl in record {
        leaving = λ puts a.
            let long = count_any (take count slots) puts a.records in
            (puts ++ (x ∷ []), (omega (arith, long, length-take count slots, ltb-true count (length slots) (sym room)), refl), came-in.arranged puts a);
        counted = λ q. omega (arith, came-in.counted q, count_cons q x []);
      }
  step_put slots count x (Err e) ys room list law = record {
    leaving = λ puts a.
        let long = count_any (take count slots) puts a.records in
        (puts, (omega (arith, long, length-take count slots, ltb-false count (length slots) (sym room)), refl), subst (Arranged before puts) (sym list) a);
    counted = λ q. ap (λ l. count_by q l + 0) (sym list);
  }

  nothing : Arranged before [] []
  nothing = record { ordered = refl; equals = λ r. refl; records = λ q. refl }

  all_push : (f : Entry R T → List R) (es : List (Entry R T)) (e : Entry R T) (q : R → Bool) → count_by q (all_of f (es ++ (e ∷ []))) ≡ count_by q (all_of f es) + count_by q (f e)
  all_push f [] e q = sum_by-append (λ y. cond (q y) 1 0) (f e) [] ∙ omega arith
  all_push f (d ∷ es) e q =
      let rest = all_push f es e q in
      omega (arith, sum_by-append (λ y. cond (q y) 1 0) (f d) (all_of f (es ++ (e ∷ []))), sum_by-append (λ y. cond (q y) 1 0) (f d) (all_of f es))

  module _ (room : ℕ) where
    run_push : {puts mid rest : List R} {es : List (Entry R T)} (e : Entry R T) → Run before tagged room puts es mid → Happens before tagged room mid e rest → Run before tagged room puts (es ++ (e ∷ [])) rest
    run_push e done h = next h done
    run_push e (next k ks) h = next k (run_push e ks h)

    lawful : (xs : List R) (es : List (Entry R T)) (ys : List R)
        → ((puts : List R) → Arranged before puts xs → (rest : List R) × Run before tagged room puts es rest × Arranged before rest ys)
        → ((q : R → Bool) → count_by q xs + count_by q (all_of came es) ≡ count_by q ys + count_by q (all_of left es))
        → Lawful before tagged room xs es ys
    lawful xs es ys leaving counted = record {
      leaving = leaving;
      from_empty = λ e. leaving [] (subst (Arranged before []) (sym e) nothing);
      counted = counted;
    }

    pub lawful_none : (xs : List R) → Lawful before tagged room xs [] xs
    lawful_none xs = lawful xs [] xs (λ puts a. (puts, done, a)) (λ q. refl)

    lawful_push : (xs : List R) (es : List (Entry R T)) (ys : List R) (e : Entry R T) (zs : List R)
        → Lawful before tagged room xs es ys → Step before tagged room ys e zs → Lawful before tagged room xs (es ++ (e ∷ [])) zs
    lawful_push xs es ys e zs before-it step =
        lawful xs (es ++ (e ∷ [])) zs
        (λ puts a. let so_far = before-it.leaving puts a in let then = step.leaving so_far.0 so_far.2 in (then.0, run_push e so_far.1 then.1, then.2))
        (λ q. omega (arith, before-it.counted q, step.counted q, all_push came es e q, all_push left es e q))

    pub lawful_more : (xs : List R) (log out : List (Entry R T)) (i : ℕ) (ys : List R) (e : Entry R T) (zs : List R) → i < length log → out ≡ set log i e
        → Lawful before tagged room xs (take i log) ys → Step before tagged room ys e zs → Lawful before tagged room xs (take (i + 1) out) zs
    lawful_more xs log out i ys e zs h written so_far step = rw (written, take_more_set log i e h) (lawful_push xs (take i log) ys e zs so_far step)

module _ {R T : Type 0} (log out : List (Entry R T)) (i : ℕ) (e : Entry R T) (h : i < length log) (written : out ≡ set log i e) where
  pub asked_more : (calls : List (Call R T)) (d : Call R T) → i < length calls → map asked (take i log) ≡ take i calls → asked e ≡ get_or calls i d
      → map asked (take (i + 1) out) ≡ take (i + 1) calls
  asked_more calls d k so_far a = rw (written, take_more_set log i e h, take_more calls i d k, map-append, so_far, a)

  pub rest_more : (old : List (Entry R T)) → drop i log ≡ drop i old → drop (i + 1) out ≡ drop (i + 1) old
  rest_more old same = ap (drop (i + 1)) written ∙ drop-set-lt (i + 1) log i e (omega arith) ∙ sym (drop-drop 1 i log) ∙ ap (drop 1) same ∙ drop-drop 1 i old
