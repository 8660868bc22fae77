-- The limits of the format, the lent prices and marks, which repeats they allow, and the size of the lent work.
use Rattle.std.specs.Prelude.{Bool, false, ◌&&◌, List, ℕ, ◌+◌, ◌-◌, ◌*◌, ◌/◌, ltb, eqb, get_or}
pub use Rattle.format.specs.declared.kind.Limits.{Limits}

-- What the format bounds: the associated constants of its type, which `Format::limits` gives, are these numbers.
abbrev pub limits : Limits
limits = record { nodes = 1024; groups = 8; repeats = 10; width = 1024; labels = 256 }

-- The limits of season runs, flat runs that a station records over a season: those of the type `Season`, which `Season::limits`
-- gives. No group may be open.
abbrev pub season : Limits
season = record { nodes = 65535; groups = 0; repeats = 10; width = 32; labels = 256 }

-- The weights of the report's length: of a step's label, of a group's label, and of a repeat, first + each × (h − 2) for h copies.
pub record Prices : Type 0 where
  pub of_step : ℕ → ℕ
  pub of_group : ℕ → ℕ
  pub first : ℕ
  pub each : ℕ

abbrev pub of_repeat : Prices → ℕ → ℕ
of_repeat P h = P.first + P.each * (h - 2)

-- The costs that are lent: a table of what steps cost by their labels, one of what groups cost by theirs, the marks of the labels, 1
-- for one that may stand in no repeat (a hand tipped addition) and 0 for a free one, and the repeat prices first and each.
pub record Tariff : Type 0 where
  pub steps : List ℕ
  pub groups : List ℕ
  pub marks : List ℕ
  pub first : ℕ
  pub each : ℕ

abbrev pub tariff : (steps groups marks : List ℕ) → (first each : ℕ) → Tariff
tariff steps groups marks first each = record { steps = steps; groups = groups; marks = marks; first = first; each = each }

-- The prices of a tariff: its table of steps prices `10`, its table of groups `11`.
abbrev pub priced : Tariff → Prices
priced T =
    record {
      of_step = λ l. get_or T.steps l 0;
      of_group = λ l. get_or T.groups l 0;
      first = T.first;
      each = T.each;
    }

-- Which repeats are allowed: the widest width that one may have, and which labels may stand in none.
pub record Allowed : Type 0 where
  pub widest : ℕ
  pub marked : ℕ → Bool

-- By a width limit alone, every label free.
abbrev pub at_most : ℕ → Allowed
at_most k = record { widest = k; marked = λ l. false }

-- By a width limit and marks: a label is marked by a 1.
abbrev pub marked_in : (marks : List ℕ) → (label : ℕ) → Bool
marked_in marks l = eqb (get_or marks l 0) 1

abbrev pub allowed : (limit : ℕ) → (marks : List ℕ) → Allowed
allowed k marks = record { widest = k; marked = marked_in marks }

-- A count and a width that a byte each can hold: the short family says these in one byte.
abbrev pub in_one_byte : (count width : ℕ) → Bool
in_one_byte h w = ltb h 256 && ltb w 256

-- The entries that each of the two work slices must have for a run of n nodes: one for each stretch of numbers from 1 to n.
abbrev pub cells : ℕ → ℕ
cells n = n * (n + 1) / 2
