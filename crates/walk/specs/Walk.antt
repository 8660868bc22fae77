-- What the functions of the walk promise: reading on from here is reading on from there, or refusing.
use Rattle.std.specs.Prelude.{◌≡◌, Bool, true, ◌&&◌, List, [], ◌∷◌, ℕ, ◌+◌, ◌*◌, ◌<◌, ◌≤◌, ltb, length, get_or, drop, Result, Ok, Err}
use Rattle.format.specs.Limits.{priced, marked_in, allowed}
use Rattle.format.specs.Answers.{number, tariff_of}
use Rattle.format.specs.declared.answers.Refusal.{Refusal}
use Rattle.format.specs.declared.kind.Limits.{Limits}
use Rattle.format.specs.Machine.{none, Rules, Open, a_repeat, Outcome, refused, accepted, scan, read, open_groups, open_repeats, opens_in, count_operand, width_operand}
use Rattle.format.specs.declared.tally.Tally.{Tally}
use Rattle.walk.specs.declared.command.Terms.{Terms}
use Rattle.walk.specs.declared.command.Depth.{Depth}
use Rattle.walk.specs.declared.command.Passed.{Passed}

-- Where a walk has come to, in numbers: at an offset with these counts, or refused with this number at the place `at`.
pub record Walk : Type 0 where
  pub refusal : ℕ
  pub at : ℕ
  pub tally : Tally

abbrev pub seen : Result Passed Refusal → Walk
seen (Ok w) = record { refusal = 0; at = w.at; tally = w.tally }
seen (Err e) = record { refusal = number e.reason; at = e.place; tally = none }

-- At the end of the input no place is left to be told.
abbrev pub ended : Result Tally Refusal → Walk
ended (Ok t) = record { refusal = 0; at = 0; tally = t }
ended (Err e) = record { refusal = number e.reason; at = e.place; tally = none }

-- The machine's rules for what was asked.
abbrev pub rules_of : Terms → Rules
rules_of a =
    record {
      limits = a.limits;
      folds = a.folds;
      short = a.short;
      allowed = allowed a.widest a.costs.marks.now;
      prices = priced (tariff_of a.costs);
    }

-- Whether a label may not stand at a depth: it is marked, and a repeat is open.
abbrev pub barred : (marks : List ℕ) → (label : ℕ) → Depth → Bool
barred marks l d = marked_in marks l && ltb 0 d.repeats

-- The reading from offset p on, with these things open, these counts and this text.
abbrev pub from : Rules → List ℕ → ℕ → List Open → Tally → List ℕ → Outcome
from R s p os t x = scan R p 0 (record { opens = os; tally = t; text = x }) (drop p s)

-- Reading on from p is reading on from q, whatever has been unrolled.
abbrev pub GoesOn : Rules → List ℕ → ℕ → List Open → Tally → ℕ → List Open → Tally → Type 0
GoesOn R s p os t q os' t' = (x : List ℕ) → (y : List ℕ) × (from R s p os t x ≡ from R s q os' t' y)

-- Reading on from p is refusing.
abbrev pub Stops : Rules → List ℕ → ℕ → List Open → Tally → (number place : ℕ) → Type 0
Stops R s p os t n e = (x : List ℕ) → from R s p os t x ≡ refused n e

-- As many groups and repeats are open.
pub record OpenAt (d : Depth) (os : List Open) : Type 0 where
  pub groups : open_groups os ≡ d.groups
  pub repeats : open_repeats os ≡ d.repeats

-- A walk from p came to w: under every stack of open things, which it changes from `pre` to `post`.
pub record Moves (R : Rules) (s : List ℕ) (d : Depth) (p : ℕ) (t : Tally) (pre post : List Open → List Open) (w : Walk) : Type 0 where
  pub goes : w.refusal ≡ 0 → (os : List Open) → OpenAt d os → GoesOn R s p (pre os) t w.at (post os) w.tally
  pub stops : (w.refusal ≡ 0 → ⊥) → (os : List Open) → OpenAt d os → Stops R s p (pre os) t w.refusal w.at

-- A command stands at p.
pub record At (s : List ℕ) (p c : ℕ) : Type 0 where
  pub below : p < length s
  pub byte : get_or s p 0 ≡ c

-- A command stands at p that opens a repeat in a family.
pub record OpensAt (s : List ℕ) (p : ℕ) (short : Bool) : Type 0 where
  pub below : p < length s
  pub byte : opens_in short (get_or s p 0) ≡ true

-- A command stands at p that is no close.
pub record NoClose (s : List ℕ) (p : ℕ) : Type 0 where
  pub below : p < length s
  pub no_group_end : get_or s p 0 ≡ 0x12 → ⊥
  pub no_repeat_end : get_or s p 0 ≡ 0x21 → ⊥

-- A sequence ends at p: at the end of the input, or at a close.
pub record Halted (s : List ℕ) (p : ℕ) : Type 0 where
  pub within : p ≤ length s
  pub close : (p ≡ length s → ⊥) → (get_or s p 0 ≡ 0x12 → ⊥) → get_or s p 0 ≡ 0x21

-- Limits of 16 bits, as the prices are, so that the counts are within what the machine words hold.
pub record Sane (a : Terms) : Type 0 where
  pub nodes : a.limits.nodes < 65536
  pub groups : a.limits.groups < 65536
  pub repeats : a.limits.repeats < 65536

-- The counts so far are within the limits, and the machine words hold them: a step has 2 bytes and a group 3; a node and a
-- closed repeat each cost less than 2 ^ 32 and add at least one to the node total.
pub record Room (L : Limits) (d : Depth) (t : Tally) : Type 0 where
  pub groups : d.groups ≤ L.groups
  pub repeats : d.repeats ≤ L.repeats
  pub nodes : t.nodes ≤ L.nodes
  pub siblings : t.siblings ≤ t.nodes
  pub size : t.size ≤ 3 * t.nodes
  pub cost : t.cost ≤ 4294967296 * (t.nodes + d.repeats)
  pub steps : t.steps ≤ t.nodes

-- The counts that commands add to are far below what the machine words hold. The depth is only compared.
pub record Small (t : Tally) : Type 0 where
  pub siblings : t.siblings < 65536
  pub nodes : t.nodes < 65536
  pub size : t.size < 196608
  pub cost : t.cost < 1125899906842624
  pub steps : t.steps < 65536

-- There is room at the depth where the counts were taken, whatever it is.
abbrev pub RoomSomewhere : Limits → Tally → Type 0
RoomSomewhere L t = (d : Depth) × Room L d t

-- The counts grew from t to r by whole items, within the limits.
pub record Grown (L : Limits) (t r : Tally) : Type 0 where
  pub nodes : t.nodes ≤ r.nodes
  pub total : r.nodes ≤ L.nodes
  pub siblings : r.siblings + t.nodes ≤ t.siblings + r.nodes
  pub longer : t.size ≤ r.size
  pub size : r.size + 3 * t.nodes ≤ t.size + 3 * r.nodes
  pub cost : r.cost + 4294967296 * t.nodes ≤ t.cost + 4294967296 * r.nodes
  pub further : t.steps ≤ r.steps
  pub steps : r.steps + t.nodes ≤ t.steps + r.nodes

-- The operand of two bytes at an offset.
abbrev pub word_at : List ℕ → ℕ → ℕ
word_at s i = get_or s i 0 * 256 + get_or s (i + 1) 0

-- The count and the width that the command at p says.
abbrev pub count_at : List ℕ → ℕ → ℕ
count_at s p = count_operand (get_or s p 0) (drop (p + 1) s)

abbrev pub width_at : List ℕ → ℕ → ℕ
width_at s p = width_operand (get_or s p 0) (drop (p + 1) s)

-- What is open inside the repeat whose command stands at p.
abbrev pub repeat_at : List ℕ → ℕ → Tally → Open
repeat_at s p t = a_repeat (count_at s p) (width_at s p) t

-- An item was read from p on.
pub record ItemRead (R : Rules) (s : List ℕ) (d : Depth) (p : ℕ) (t : Tally) (w : Walk) : Type 0 where
  pub moves : Moves R s d p t (λ os. os) (λ os. os) w
  pub ahead : w.refusal ≡ 0 → p < w.at
  pub within : w.refusal ≡ 0 → w.at ≤ length s
  pub grown : w.refusal ≡ 0 → Grown R.limits t w.tally

-- A sequence was read from p on, up to the end of the input or to a close.
pub record SequenceRead (R : Rules) (s : List ℕ) (d : Depth) (p : ℕ) (t : Tally) (w : Walk) : Type 0 where
  pub moves : Moves R s d p t (λ os. os) (λ os. os) w
  pub ahead : w.refusal ≡ 0 → p ≤ w.at
  pub halted : w.refusal ≡ 0 → Halted s w.at
  pub grown : w.refusal ≡ 0 → Grown R.limits t w.tally

-- The depth inside a group, and inside a repeat.
abbrev pub in_group_of : Depth → Depth
in_group_of d = record { groups = d.groups + 1; repeats = d.repeats }

abbrev pub in_repeat_of : Depth → Depth
in_repeat_of d = record { groups = d.groups; repeats = d.repeats + 1 }

-- The command at p opened o, and the counts inside are those.
pub record OpenRead (R : Rules) (s : List ℕ) (d d' : Depth) (p : ℕ) (t : Tally) (o : Open) (size nodes price : ℕ) (w : Walk) : Type 0 where
  pub moves : Moves R s d p t (λ os. os) (λ os. o ∷ os) w
  pub ahead : w.refusal ≡ 0 → p < w.at
  pub within : w.refusal ≡ 0 → w.at ≤ length s
  pub siblings : w.refusal ≡ 0 → w.tally.siblings ≡ 0
  pub nodes_inside : w.refusal ≡ 0 → w.tally.nodes ≡ t.nodes + nodes
  pub room : w.refusal ≡ 0 → Room R.limits d' w.tally
  pub size_inside : w.refusal ≡ 0 → w.tally.size ≡ t.size + size
  pub cost_inside : w.refusal ≡ 0 → w.tally.cost ≤ t.cost + price
  pub steps_inside : w.refusal ≡ 0 → w.tally.steps ≡ t.steps

-- The close at p ended o, whose outer counts are t; the counts inside it were i.
pub record CloseRead (R : Rules) (s : List ℕ) (d : Depth) (p : ℕ) (t i : Tally) (o : Open) (w : Walk) : Type 0 where
  pub moves : Moves R s d p i (λ os. o ∷ os) (λ os. os) w
  pub ahead : w.refusal ≡ 0 → p < w.at
  pub within : w.refusal ≡ 0 → w.at ≤ length s
  pub grown : w.refusal ≡ 0 → Grown R.limits t w.tally

-- The whole input was read, or refused.
pub record Whole (R : Rules) (s : List ℕ) (w : Walk) : Type 0 where
  pub reads : w.refusal ≡ 0 → (x : List ℕ) × (read R s ≡ accepted w.tally x)
  pub refuses : (w.refusal ≡ 0 → ⊥) → read R s ≡ refused w.refusal w.at

-- What a walk over the whole input says of it, the unrolled bytes aside.
abbrev pub outcome : Result Tally Refusal → Outcome
outcome (Ok t) = accepted t []
outcome (Err e) = refused (number e.reason) e.place
