-- A white space or a comment between two bytes may be left out.
use Rattle.std.proofs.Common.{◌≡◌, ℕ, ◌+◌, ◌*◌, Bool, true, false, cond, not, ◌&&◌, eqb, ◌⊎◌, List, [], ◌∷◌, ◌++◌, Some, None, Ok, Err, Option, Result, sym, refl, ap, ◌∙◌, subst, ⊎_elim}
use Rattle.std.specs.Option.{option_map}
use Rattle.std.specs.Result.{result_ok}
use Rattle.hex_text.specs.declared.text.TextError.{TextError}
use Rattle.hex_text.specs.declared.reader.Sign.{Sign}
use Rattle.hex_text.specs.declared.reader.Sign.TheVariants.{Digit, Space, Hash, Other}
use Rattle.hex_text.specs.declared.reader.State.{State}
use Rattle.hex_text.specs.declared.reader.State.TheVariants.{Between, Half, Comment}
use Rattle.hex_text.specs.Reader.{Reader, Step, sign, here, past, step_by, step}
use Rattle.hex_text.specs.Meaning.{Scan, finish, onward, scan, start, before, said, meaning}
use Rattle.hex_text.specs.Laws.{idle, ahead, settled, one_line, Gap, Loose}

-- what a text says, without positions
abbrev bytes : Scan → Option (List ℕ)
bytes s = result_ok (said s)

ok_before : (bs : List ℕ) (a : Result (List ℕ) TextError) → result_ok (before bs a) ≡ option_map (λ l. bs ++ l) (result_ok a)
ok_before bs (Ok cs) = refl
ok_before bs (Err e) = refl

before_same : (bs : List ℕ) (a b : Result (List ℕ) TextError) → result_ok a ≡ result_ok b → result_ok (before bs a) ≡ result_ok (before bs b)
before_same bs a b e = ok_before bs a ∙ (ap (option_map (λ l. bs ++ l)) e ∙ sym (ok_before bs b))

-- states that differ in a position at most
abbrev Same : State → State → Type 0
Same Between Between = Unit {0}
Same Between (Half e q) = ⊥
Same Between Comment = ⊥
Same (Half d p) Between = ⊥
Same (Half d p) (Half e q) = d ≡ e
Same (Half d p) Comment = ⊥
Same Comment Between = ⊥
Same Comment (Half e q) = ⊥
Same Comment Comment = Unit {0}

same_end : (s t : State) → Same s t → bytes (finish s) ≡ bytes (finish t)
same_end Between Between h = refl
same_end Between (Half e q) h = absurd h
same_end Between Comment h = absurd h
same_end (Half d p) Between h = absurd h
same_end (Half d p) (Half e q) h = refl
same_end (Half d p) Comment h = absurd h
same_end Comment Between h = absurd h
same_end Comment (Half e q) h = absurd h
same_end Comment Comment h = refl

comment_same : (b : Bool) → Same (cond b Between Comment) (cond b Between Comment)
comment_same true = tt
comment_same false = tt

same_step : (c : ℕ) (cs : List ℕ) → ((q r : Reader) → Same q.state r.state → bytes (scan q cs) ≡ bytes (scan r cs)) → (q r : Reader) (s t : State) (x : Sign) → Same s t → bytes (onward (step_by s c (here q) x) (λ z. scan (past q c z) cs)) ≡ bytes (onward (step_by t c (here r) x) (λ z. scan (past r c z) cs))
same_step c cs ih q r Between Between (Digit d) h = ih _ _ refl
same_step c cs ih q r Between Between Space h = ih _ _ tt
same_step c cs ih q r Between Between Hash h = ih _ _ tt
same_step c cs ih q r Between Between Other h = refl
same_step c cs ih q r Between (Half e o) x h = absurd h
same_step c cs ih q r Between Comment x h = absurd h
same_step c cs ih q r (Half d p) Between x h = absurd h
same_step c cs ih q r (Half d p) (Half e o) (Digit b) h =
    ap (λ (n : ℕ). result_ok (before ((n * 16 + b) ∷ []) (said (scan (past q c Between) cs)))) h ∙ before_same ((e * 16 + b) ∷ []) (said (scan (past q c Between) cs)) (said (scan (past r c Between) cs)) (ih _ _ tt)
same_step c cs ih q r (Half d p) (Half e o) Space h = refl
same_step c cs ih q r (Half d p) (Half e o) Hash h = refl
same_step c cs ih q r (Half d p) (Half e o) Other h = refl
same_step c cs ih q r (Half d p) Comment x h = absurd h
same_step c cs ih q r Comment Between x h = absurd h
same_step c cs ih q r Comment (Half e o) x h = absurd h
same_step c cs ih q r Comment Comment x h = ih _ _ (comment_same (eqb c 10))

same : (cs : List ℕ) (q r : Reader) → Same q.state r.state → bytes (scan q cs) ≡ bytes (scan r cs)
same [] q r h = same_end q.state r.state h
same (c ∷ cs) q r h = same_step c cs (same cs) q r q.state r.state (sign c) h

-- a comment with the end of its line
comment : (cs rest : List ℕ) (l n : ℕ) → one_line cs ≡ true → bytes (scan (record { lines = l; columns = n; state = Comment }) ((cs ++ (10 ∷ [])) ++ rest)) ≡ bytes (scan start rest)
comment [] rest l n h = same rest _ _ tt
comment (c ∷ cs) rest l n h =
    let here : eqb c 10 ≡ false = unended (eqb c 10) (one_line cs) h in
    ap (λ (b : Bool). bytes (scan (record { lines = cond (eqb c 10) (l + 1) l; columns = cond (eqb c 10) 0 (n + 1); state = cond b Between Comment }) ((cs ++ (10 ∷ [])) ++ rest))) here
    ∙ comment cs rest _ _ (ended (eqb c 10) (one_line cs) h)
  where
    unended : (b d : Bool) → not b && d ≡ true → b ≡ false
    unended true d h = cc
    unended false d h = refl

    ended : (b d : Bool) → not b && d ≡ true → d ≡ true
    ended true d h = cc
    ended false d h = h

white : (c : ℕ) (rest : List ℕ) (l n : ℕ) → (c ≡ 32) ⊎ ((c ≡ 9) ⊎ ((c ≡ 13) ⊎ (c ≡ 10))) → bytes (scan (record { lines = l; columns = n; state = Between }) (c ∷ rest)) ≡ bytes (scan start rest)
white c rest l n h =
    let P : ℕ → Type 0 = λ c. bytes (scan (record { lines = l; columns = n; state = Between }) (c ∷ rest)) ≡ bytes (scan start rest) in
    ⊎_elim (λ e. subst P (sym e) (same rest _ _ tt)) (⊎_elim (λ e. subst P (sym e) (same rest _ _ tt)) (⊎_elim (λ e. subst P (sym e) (same rest _ _ tt)) (λ e. subst P (sym e) (same rest _ _ tt)))) h

gap_out : (gap rest : List ℕ) (l n : ℕ) → Gap gap → bytes (scan (record { lines = l; columns = n; state = Between }) (gap ++ rest)) ≡ bytes (scan start rest)
gap_out gap rest l n h =
    let P : List ℕ → Type 0 = λ g. bytes (scan (record { lines = l; columns = n; state = Between }) (g ++ rest)) ≡ bytes (scan start rest) in
    ⊎_elim (λ w. subst P (sym w.2) (white w.0 rest l n w.1)) (λ w. subst P (sym w.2) (comment w.0 rest l (n + 1) w.1)) h

is-idle : (s : State) → idle s ≡ true → s ≡ Between
is-idle Between h = refl
is-idle (Half d p) h = cc
is-idle Comment h = cc

idle_gap : (gap rest : List ℕ) (r : Reader) → idle r.state ≡ true → Gap gap → bytes (scan r (gap ++ rest)) ≡ bytes (scan r rest)
idle_gap gap rest r h g =
    let P : State → Type 0 = λ s. bytes (scan (record { lines = r.lines; columns = r.columns; state = s }) (gap ++ rest)) ≡ bytes (scan (record { lines = r.lines; columns = r.columns; state = s }) rest) in
    subst P (sym (is-idle r.state h)) (gap_out gap rest r.lines r.columns g ∙ same rest _ _ tt)

skips : (cs rest other : List ℕ) (f : State → Reader) → ((q : Reader) → settled q cs ≡ true → bytes (scan q (cs ++ other)) ≡ bytes (scan q (cs ++ rest))) → (s : Step) → ahead s (λ t. settled (f t) cs) ≡ true → bytes (onward s (λ t. scan (f t) (cs ++ other))) ≡ bytes (onward s (λ t. scan (f t) (cs ++ rest)))
skips cs rest other f ih (Ok (s, None)) h = ih (f s) h
skips cs rest other f ih (Ok (s, Some m)) h = before_same (m.value ∷ []) (said (scan (f s) (cs ++ other))) (said (scan (f s) (cs ++ rest))) (ih (f s) h)
skips cs rest other f ih (Err e) h = cc

out : (front gap rest : List ℕ) (r : Reader) → settled r front ≡ true → Gap gap → bytes (scan r (front ++ (gap ++ rest))) ≡ bytes (scan r (front ++ rest))
out [] gap rest r h g = idle_gap gap rest r h g
out (c ∷ cs) gap rest r h g = skips cs rest (gap ++ rest) (past r c) (λ q k. out cs gap rest q k g) (step r.state c (here r)) h

pub loose : (text : List ℕ) → Loose text
loose text front gap rest e h g = ap (λ (l : List ℕ). result_ok (meaning l)) e ∙ out front gap rest start h g
