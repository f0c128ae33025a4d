-- A chart that bills: send the bill, wait for the money, remind after a time. And three slips in its bytes.
use Rattle.std.specs.Prelude.{◌≡◌, ℕ, List, [], ◌∷◌, ◌++◌, take, Some, None, slice_set}
use Rattle.layout.specs.Reader.{Parts}
use Rattle.layout.specs.Layout.{encode}
use Rattle.layout.specs.declared.refusal.Fault.TheVariants.{Short, Map}
use Rattle.layout.specs.declared.parts.RawEdge.{RawEdge}
use Rattle.chart.specs.declared.rules.Rule.TheVariants.{ActionPlain}
use Rattle.chart.specs.declared.refusal.Refusal.TheVariants.{Malformed, Broken}
use Rattle.chart.specs.Law.{verdict, accepted, refused}

abbrev pub counts : List ℕ
counts = 0x04 ∷ 0x04 ∷ []

abbrev pub bill_node_records : List ℕ
bill_node_records = 0x00 ∷ 0x01 ∷ 0x07 ∷ 0x00 ∷ 0x00 ∷ []

abbrev pub first_edge : List ℕ
first_edge = 0x60 ∷ 0x00 ∷ 0x00 ∷ 0x00 ∷ 0x01 ∷ 0x00 ∷ 0x00 ∷ 0x00 ∷ 0x02 ∷ []

abbrev pub second_ends : List ℕ
second_ends = 0x00 ∷ 0x00 ∷ 0x00 ∷ 0x02 ∷ 0x00 ∷ 0x00 ∷ 0x00 ∷ 0x04 ∷ []

abbrev pub third_edge : List ℕ
third_edge = 0x61 ∷ 0x03 ∷ 0x00 ∷ 0x00 ∷ 0x00 ∷ 0x04 ∷ 0x00 ∷ 0x00 ∷ 0x00 ∷ 0x08 ∷ []

abbrev pub fourth_edge : List ℕ
fourth_edge = 0x62 ∷ 0x00 ∷ 0x00 ∷ 0x00 ∷ 0x0E ∷ 0x00 ∷ 0x00 ∷ 0x00 ∷ 0x04 ∷ 0x00 ∷ 0x00 ∷ 0x00 ∷ 0x02 ∷ []

abbrev pub bill : List ℕ
bill = counts ++ (bill_node_records ++ (first_edge ++ (0x60 ∷ second_ends ++ (third_edge ++ fourth_edge))))

-- the second edge waits for event 5
abbrev pub eager : List ℕ
eager = counts ++ (bill_node_records ++ (first_edge ++ (0x61 ∷ 0x05 ∷ second_ends ++ (third_edge ++ fourth_edge))))

abbrev pub plain_edge : ℕ → ℕ → RawEdge
plain_edge s t = record { trigger = None; after = None; when = None; guard = None; send = None; sources = record { bits = s }; targets = record { bits = t } }

abbrev pub bill_parts : Parts
bill_parts =
    record {
      nodes = record { activity = None } ∷ record { activity = Some 7 } ∷ record { activity = None } ∷ record { activity = None } ∷ [];
      edges =
          plain_edge 1 2
          ∷ plain_edge 2 4
          ∷ record { trigger = Some 3; after = None; when = None; guard = None; send = None; sources = record { bits = 4 }; targets = record { bits = 8 } }
          ∷ record { trigger = None; after = Some 14; when = None; guard = None; send = None; sources = record { bits = 4 }; targets = record { bits = 2 } }
          ∷ [];
    }

pub record Samples : Type 0 where
  pub reads : verdict bill ≡ accepted bill_parts
  pub written : encode bill_parts ≡ bill
  pub less_a_byte : verdict (take 47 bill) ≡ refused (Malformed (record { fault = Short; place = 47 }))
  pub wrong_map : verdict (slice_set bill 7 0xE0) ≡ refused (Malformed (record { fault = Map; place = 7 }))
  pub waiting_action : verdict eager ≡ refused (Broken ActionPlain 16)
