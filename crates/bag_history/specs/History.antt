-- Sequences of calls on a bag.
use Rattle.std.specs.Prelude.{◌≡◌, ℕ, ◌+◌, ◌<◌, ◌≤◌, Bool, List, [], ◌∷◌, ◌++◌, length, Ok, Err, count_by}
use Rattle.std.specs.List.{flat_map}
use Rattle.std.specs.Option.{option_to_list}
use Rattle.bag_history.specs.declared.Call.{Call}
use Rattle.bag_history.specs.declared.Call.TheVariants as call
use Rattle.bag_history.specs.declared.Entry.{Entry}
use Rattle.bag_history.specs.declared.Entry.TheVariants.{Put, TakeFirst, TakeTag}
use Rattle.bag.specs.Leaving.{Arranged, Taken, any}

-- the call of an entry
abbrev pub asked : {R T : Type 0} → Entry R T → Call R T
asked (Put x r) = call.Put x
asked (TakeFirst r) = call.TakeFirst
asked (TakeTag t r) = call.TakeTag t

-- the record that came in by a call, and the one that left
abbrev pub came : {R T : Type 0} → Entry R T → List R
came (Put x (Ok u)) = x ∷ []
came (Put x (Err e)) = []
came (TakeFirst r) = []
came (TakeTag t r) = []

abbrev pub left : {R T : Type 0} → Entry R T → List R
left (Put x r) = []
left (TakeFirst r) = option_to_list r
left (TakeTag t r) = option_to_list r

abbrev pub all_of : {R T : Type 0} → (Entry R T → List R) → List (Entry R T) → List R
all_of f es = flat_map f es

module _ {R T : Type 0} (before : R → R → Bool) (tagged : T → R → Bool) (room : ℕ) where
  -- what a call does to the records in the order of putting: `puts` before it, and `rest` after it
  abbrev pub Happens : List R → Entry R T → List R → Type 0
  Happens puts (Put x (Ok u)) rest = (length puts < room) × (rest ≡ puts ++ (x ∷ []))
  Happens puts (Put x (Err e)) rest = (room ≤ length puts) × (rest ≡ puts)
  Happens puts (TakeFirst r) rest = Taken before any puts r rest
  Happens puts (TakeTag t r) rest = Taken before (tagged t) puts r rest

  -- one call, by which the bag's list `xs` becomes `ys`
  pub record Step (xs : List R) (e : Entry R T) (ys : List R) : Type 0 where
    pub leaving : (puts : List R) → Arranged before puts xs → (rest : List R) × Happens puts e rest × Arranged before rest ys
    pub counted : (q : R → Bool) → count_by q xs + count_by q (came e) ≡ count_by q ys + count_by q (left e)

  -- the calls of a log one after the other, from the records `puts` in the order of putting to `rest`
  pub data Run : List R → List (Entry R T) → List R → Type 0 where
    done : {puts : List R} → Run puts [] puts
    next : {puts mid rest : List R} {e : Entry R T} {es : List (Entry R T)} → Happens puts e mid → Run mid es rest → Run puts (e ∷ es) rest

  -- The law of any sequence of calls, by which the bag's list `xs` becomes `ys`: every call answers by the records that were put and have not
  -- left, in the order of putting; and no record is lost or doubled.
  pub record Lawful (xs : List R) (es : List (Entry R T)) (ys : List R) : Type 0 where
    pub leaving : (puts : List R) → Arranged before puts xs → (rest : List R) × Run puts es rest × Arranged before rest ys
    pub from_empty : xs ≡ [] → (rest : List R) × Run [] es rest × Arranged before rest ys
    pub counted : (q : R → Bool) → count_by q xs + count_by q (all_of came es) ≡ count_by q ys + count_by q (all_of left es)
