-- Reading: what stands at a place of the bytes, and the place after it; or the refusal.
use Rattle.std.specs.Prelude.{ℕ, zero, suc, ◌+◌, ◌*◌, ◌/◌, ◌%◌, ◌^◌, Bool, true, false, cond, List, [], ◌∷◌, length, Some, None, Option, ◌==◌, nat_le, nat_lt, slice_index}
use Rattle.layout.specs.declared.parts.Node.{Node}
use Rattle.layout.specs.declared.parts.NodeSet.{NodeSet}
use Rattle.layout.specs.declared.parts.RawEdge.{RawEdge}
use Rattle.layout.specs.declared.parts.Condition.{Condition}
use Rattle.layout.specs.declared.parts.Condition.TheVariants.{Equal, AtLeast, LessThan, Absent, HoldsToken}
use Rattle.layout.specs.declared.parts.Guard.{Guard}
use Rattle.layout.specs.declared.parts.Guard.TheVariants.{One, Two, Three, Four}
use Rattle.layout.specs.declared.refusal.Fault.{Fault}
use Rattle.layout.specs.declared.refusal.Fault.TheVariants.{Short, Count, Map, Field, Left}
use Rattle.layout.specs.declared.refusal.Refusal.{Refusal}
use Rattle.layout.specs.Fits.{set_fits, condition_fits}

-- A value and the place after it, or a refusal. No Result: the place stands beside the value, and not in a pair with it.
pub data Out (A : Type 0) : Type 0 where
  got : A → ℕ → Out A
  bad : Refusal → Out A

abbrev pub refuse : {A : Type 0} → Fault → ℕ → Out A
refuse f i = bad (record { fault = f; place = i })

abbrev pub bind : {A B : Type 0} → Out A → (A → ℕ → Out B) → Out B
bind (got v j) f = f v j
bind (bad e) f = bad e

abbrev pub byte : List ℕ → ℕ → Out ℕ
byte bs i = cond (nat_lt i (length bs)) (got (slice_index bs i) (i + 1)) (refuse Short (length bs))

-- four bytes, the highest first
abbrev pub number : List ℕ → ℕ → Out ℕ
number bs i = bind (byte bs i) (λ a j. bind (byte bs j) (λ b k. bind (byte bs k) (λ c l. bind (byte bs l) (λ d m. got (a * 16777216 + b * 65536 + c * 256 + d) m))))

-- a value whose number is in a range, or refused at its first byte
abbrev pub ranged : {A : Type 0} → Fault → (A → ℕ) → (List ℕ → ℕ → Out A) → ℕ → ℕ → List ℕ → ℕ → Out A
ranged f number p low high bs i = bind (p bs i) (λ v j. cond (nat_le low (number v)) (cond (nat_le (number v) high) (got v j) (refuse f i)) (refuse f i))

abbrev pub field : (List ℕ → ℕ → Out ℕ) → ℕ → ℕ → List ℕ → ℕ → Out ℕ
field p low high bs i = ranged Field (λ v. v) p low high bs i

-- a field that stands only where its bit does
abbrev pub maybe : {A : Type 0} → Bool → (List ℕ → ℕ → Out A) → List ℕ → ℕ → Out (Option A)
maybe true p bs i = bind (p bs i) (λ v j. got (Some v) j)
maybe false p bs i = got None i

-- a map, of which some bits always stand or never do
abbrev pub map_byte : ℕ → ℕ → List ℕ → ℕ → Out ℕ
map_byte low high bs i = ranged Map (λ v. v) byte low high bs i

-- bit k of a map
abbrev pub stands : ℕ → ℕ → Bool
stands m k = m / 2 ^ k % 2 == 1

-- a set of one to four of the n nodes
abbrev pub set : ℕ → List ℕ → ℕ → Out NodeSet
set n bs i = bind (number bs i) (λ v j. cond (set_fits n (record { bits = v })) (got (record { bits = v }) j) (refuse Field i))

abbrev pub node : List ℕ → ℕ → Out Node
node bs i = bind (map_byte 0 1 bs i) (λ m j. bind (maybe (stands m 0) (field byte 0 63) bs j) (λ a k. got (record { activity = a }) k))

-- the condition that a kind, a subject and a constant are; the last two kinds have no constant
abbrev pub condition_of : ℕ → ℕ → ℕ → Option Condition
condition_of kind subject constant =
    cond (kind == 0) (Some (Equal subject constant))
    (cond (kind == 1) (Some (AtLeast subject constant))
    (cond (kind == 2) (Some (LessThan subject constant))
    (cond (kind == 3) (cond (constant == 0) (Some (Absent subject)) None)
    (cond (kind == 4) (cond (constant == 0) (Some (HoldsToken subject)) None)
    None))))

abbrev pub fitting : ℕ → Option Condition → ℕ → ℕ → Out Condition
fitting n (Some c) i j = cond (condition_fits n c) (got c j) (refuse Field i)
fitting n None i j = refuse Field i

-- six bytes, judged once they are whole
abbrev pub condition : ℕ → List ℕ → ℕ → Out Condition
condition n bs i = bind (byte bs i) (λ kind j. bind (byte bs j) (λ subject k. bind (number bs k) (λ constant l. fitting n (condition_of kind subject constant) i l)))

abbrev pub guard : ℕ → List ℕ → ℕ → Out Guard
guard n bs i =
    bind (field byte 1 4 bs i)
    (λ k j. bind (condition n bs j)
    (λ a j1. cond (k == 1) (got (One a) j1) (bind (condition n bs j1)
    (λ b j2. cond (k == 2) (got (Two a b) j2) (bind (condition n bs j2)
    (λ c j3. cond (k == 3) (got (Three a b c) j3) (bind (condition n bs j3)
    (λ d j4. got (Four a b c d) j4))))))))

-- sources and targets always stand
abbrev pub edge : ℕ → List ℕ → ℕ → Out RawEdge
edge n bs i =
    bind (map_byte 0b0110_0000 0b0111_1111 bs i)
    (λ m j. bind (maybe (stands m 0) (field byte 0 31) bs j)
    (λ trigger j0. bind (maybe (stands m 1) (field number 1 100000000) bs j0)
    (λ after j1. bind (maybe (stands m 2) (field number 0 4000000000) bs j1)
    (λ when j2. bind (maybe (stands m 3) (guard n) bs j2)
    (λ guard j3. bind (maybe (stands m 4) (field byte 0 31) bs j3)
    (λ send j4. bind (set n bs j4)
    (λ sources j5. bind (set n bs j5)
    (λ targets j6. got (record { trigger = trigger; after = after; when = when; guard = guard; send = send; sources = sources; targets = targets }) j6))))))))

-- k records, one after the other
abbrev pub many : {A : Type 0} → (List ℕ → ℕ → Out A) → ℕ → List ℕ → ℕ → Out (List A)
many p zero bs i = got [] i
many p (suc k) bs i = bind (p bs i) (λ x j. bind (many p k bs j) (λ xs l. got (x ∷ xs) l))

-- a number of records, or refused
abbrev pub count : ℕ → ℕ → List ℕ → ℕ → Out ℕ
count low high bs i = ranged Count (λ v. v) byte low high bs i

-- the parts of a chart
pub record Parts : Type 0 where
  pub nodes : List Node
  pub edges : List RawEdge

abbrev pub chart : List ℕ → ℕ → Out Parts
chart bs h =
    bind (count 2 32 bs h)
    (λ n i. bind (count 1 64 bs i)
    (λ m j. bind (many node n bs j)
    (λ ns k. bind (many (edge n) m bs k)
    (λ es l. cond (nat_lt l (length bs)) (refuse Left l) (got (record { nodes = ns; edges = es }) (length bs))))))
