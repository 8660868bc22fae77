-- Laws of reading on from an offset: one passed or refused command as the walk's records have it, and walks one after another.
use mathlib.Core.Path.{◌≡◌, refl, ap, ◌∙◌}
use mathlib.Core.Bool.{false}
use mathlib.Core.List.{List, [], ◌∷◌}
use mathlib.Core.Logic.{◌≢◌}
use Prim.Native.Nat.{ℕ, suc, ◌+◌, ◌<◌, ◌≤◌}
use native.Mathlib.Numerals.{add-one}
use native.Mathlib.Omega.{arith}
use lib.ListN.{length, get_or, drop, length-drop}
use lib.Seq.{drop-cons, drop-length}
use borrow.Author.Tests.{ne_eqb}
use Rattle.format.specs.Machine.{none, Rules, Open, a_group, a_repeat, State, refused, accepted, refusal, place_of, opens_in}
use Rattle.format.specs.declared.kind.Limits.{Limits}
use Rattle.format.specs.declared.tally.Tally.{Tally}
use Rattle.format.proofs.Machine.{scan_refuse, scan_end, refusal_unknown}
use Rattle.walk.specs.Walk.{Walk, from, GoesOn, Stops, OpenAt, Halted, Room, Grown, ItemRead, SequenceRead, OpenRead, CloseRead, NoClose, in_group_of, in_repeat_of}
use Rattle.walk.specs.declared.command.Depth.{Depth}

-- The bytes from an offset on, taken apart one and two at a time.
pub cut_one : (s : List ℕ) (p : ℕ) → p < length s → drop p s ≡ get_or s p 0 ∷ drop (p + 1) s
cut_one s p h = rw add-one (drop-cons s p 0 h)

pub cut_two : (s : List ℕ) (p : ℕ) → p + 2 ≤ length s → drop p s ≡ get_or s p 0 ∷ get_or s (p + 1) 0 ∷ drop (p + 2) s
cut_two s p h =
    let e : p + 1 + 1 ≡ p + 2 = omega arith in
    cut_one s p (omega arith) ∙ ap (λ (x : List ℕ). get_or s p 0 ∷ x) (rw e at (cut_one s (p + 1) (omega arith)))

-- The state at an offset.
abbrev pub at : List Open → Tally → List ℕ → State
at os t x = record { opens = os; tally = t; text = x }

-- A command that is refused.
pub stop : (R : Rules) (s : List ℕ) (p : ℕ) (os : List Open) (t : Tally) (x : List ℕ) (n : ℕ) → p < length s → n ≢ 0 → refusal R (at os t x) (get_or s p 0) (drop (p + 1) s) ≡ n → from R s p os t x ≡ refused n (place_of n p (length s))
stop R s p os t x n h z e =
    let l : p + suc (length (drop (p + 1) s)) ≡ length s = rw length-drop (omega arith) in
    rw (cut_one s p h, scan_refuse R p (at os t x) (get_or s p 0) (drop (p + 1) s) n z e, l)

-- Something open at the end.
pub stop_end : (R : Rules) (s : List ℕ) (p : ℕ) (o : Open) (os : List Open) (t : Tally) (x : List ℕ) → p ≡ length s → from R s p (o ∷ os) t x ≡ refused 3 p
stop_end R s p o os t x e = rw (e, drop-length, scan_end R (length s) (at (o ∷ os) t x))

pub pass_end : (R : Rules) (s : List ℕ) (p : ℕ) (t : Tally) (x : List ℕ) → p ≡ length s → from R s p [] t x ≡ accepted t x
pass_end R s p t x e = rw (e, drop-length, scan_end R (length s) (at [] t x))

-- Refused walks.
module _ (R : Rules) (s : List ℕ) (d : Depth) (p : ℕ) (t : Tally) (w : Walk) (no : w.refusal ≡ 0 → ⊥) where
  pub item_refused : ((os : List Open) → OpenAt d os → Stops R s p os t w.refusal w.at) → ItemRead R s d p t w
  item_refused h =
      record {
        moves = record { goes = λ e. absurd (no e); stops = λ e. h };
        ahead = λ e. absurd (no e);
        within = λ e. absurd (no e);
        grown = λ e. absurd (no e);
      }

  pub sequence_refused : ((os : List Open) → OpenAt d os → Stops R s p os t w.refusal w.at) → SequenceRead R s d p t w
  sequence_refused h =
      record {
        moves = record { goes = λ e. absurd (no e); stops = λ e. h };
        ahead = λ e. absurd (no e);
        halted = λ e. absurd (no e);
        grown = λ e. absurd (no e);
      }

  pub open_refused : (d' : Depth) (o : Open) (size nodes price : ℕ) → ((os : List Open) → OpenAt d os → Stops R s p os t w.refusal w.at) → OpenRead R s d d' p t o size nodes price w
  open_refused d' o size nodes price h =
      record {
        moves = record { goes = λ e. absurd (no e); stops = λ e. h };
        ahead = λ e. absurd (no e);
        within = λ e. absurd (no e);
        siblings = λ e. absurd (no e);
        nodes_inside = λ e. absurd (no e);
        room = λ e. absurd (no e);
        size_inside = λ e. absurd (no e);
        cost_inside = λ e. absurd (no e);
        steps_inside = λ e. absurd (no e);
      }

  pub close_refused : (i : Tally) (o : Open) → ((os : List Open) → OpenAt d os → Stops R s p (o ∷ os) i w.refusal w.at) → CloseRead R s d p t i o w
  close_refused i o h =
      record {
        moves = record { goes = λ e. absurd (no e); stops = λ e. h };
        ahead = λ e. absurd (no e);
        within = λ e. absurd (no e);
        grown = λ e. absurd (no e);
      }

-- A command that opens o, the sequence inside it, and the close of o.
module _ (R : Rules) (s : List ℕ) (d d' : Depth) (p : ℕ) (t : Tally) (o : Open) (deeper : (os : List Open) → OpenAt d os → OpenAt d' (o ∷ os)) (size nodes price : ℕ) (e : Walk) (entered : OpenRead R s d d' p t o size nodes price e) where
  pub entry_refused : (e.refusal ≡ 0 → ⊥) → ItemRead R s d p t e
  entry_refused ends = item_refused R s d p t e ends (entered.moves.stops ends)

  module _ (in_it : e.refusal ≡ 0) (w : Walk) (read : SequenceRead R s d' e.at e.tally w) where
    pub inside_refused : (w.refusal ≡ 0 → ⊥) → ItemRead R s d p t w
    inside_refused ends =
        item_refused R s d p t w ends
        (λ os m x.
        let a = entered.moves.goes in_it os m x in
        a.1 ∙ read.moves.stops ends (o ∷ os) (deeper os m) a.0)

    pub through : w.refusal ≡ 0 → (l : Walk) → CloseRead R s d w.at t w.tally o l → ItemRead R s d p t l
    through all l left =
        record {
          moves = record {
            goes = λ z os m x.
                let a = entered.moves.goes in_it os m x in
                let b = read.moves.goes all (o ∷ os) (deeper os m) a.0 in
                let c = left.moves.goes z os m b.0 in
                (c.0, a.1 ∙ (b.1 ∙ c.1));
            stops = λ z os m x.
                let a = entered.moves.goes in_it os m x in
                let b = read.moves.goes all (o ∷ os) (deeper os m) a.0 in
                a.1 ∙ (b.1 ∙ left.moves.stops z os m b.0);
          };
          ahead = λ z. omega (arith, entered.ahead in_it, read.ahead all, left.ahead z);
          within = left.within;
          grown = left.grown;
        }

-- The items passed so far of a sequence that began at p with the counts t.
pub record Along (R : Rules) (s : List ℕ) (d : Depth) (p : ℕ) (t : Tally) (q : ℕ) (r : Tally) : Type 0 where
  pub goes : (os : List Open) → OpenAt d os → GoesOn R s p os t q os r
  pub ahead : p ≤ q
  pub within : q ≤ length s
  pub grown : Grown R.limits t r

module _ (R : Rules) (s : List ℕ) (d : Depth) (p : ℕ) (t : Tally) where
  pub along_none : p ≤ length s → t.nodes ≤ R.limits.nodes → Along R s d p t p t
  along_none h k =
      record { goes = λ os m x. (x, refl); ahead = omega arith; within = h; grown = omega arith }

  module _ (q : ℕ) (r : Tally) (so_far : Along R s d p t q r) where
    pub along_ends : Halted s q → SequenceRead R s d p t (record { refusal = 0; at = q; tally = r })
    along_ends h =
        record {
          moves = record { goes = λ z. so_far.goes; stops = λ z. absurd (z refl) };
          ahead = λ z. so_far.ahead;
          halted = λ z. h;
          grown = λ z. so_far.grown;
        }

    module _ (w : Walk) (next : ItemRead R s d q r w) where
      pub along_refused : (w.refusal ≡ 0 → ⊥) → SequenceRead R s d p t w
      along_refused ends =
          sequence_refused R s d p t w ends
          (λ os m x.
          let a = so_far.goes os m x in
          a.1 ∙ next.moves.stops ends os m a.0)

      pub along_more : w.refusal ≡ 0 → Along R s d p t w.at w.tally
      along_more z =
          record {
            goes = λ os m x.
                let a = so_far.goes os m x in
                let b = next.moves.goes z os m a.0 in
                (b.0, a.1 ∙ b.1);
            ahead = omega (arith, so_far.ahead, next.ahead z);
            within = next.within z;
            grown = omega (arith, so_far.grown, next.grown z);
          }

-- Room stays while the counts grow by whole items.
pub room_grown : (L : Limits) (d : Depth) (t r : Tally) → Room L d t → Grown L t r → Room L d r
room_grown L d t r h g = omega (arith, h, g)

pub group_deeper : (d : Depth) (t : Tally) (os : List Open) → OpenAt d os → OpenAt (in_group_of d) (a_group t ∷ os)
group_deeper d t os m = record { groups = omega (arith, m.groups); repeats = m.repeats }

pub repeat_deeper : (d : Depth) (h w : ℕ) (t : Tally) (os : List Open) → OpenAt d os → OpenAt (in_repeat_of d) (a_repeat h w t ∷ os)
repeat_deeper d h w t os m = record { groups = m.groups; repeats = omega (arith, m.repeats) }

-- The close of a repeat, by the count and the width that were read.
pub closed_as : {R : Rules} {s : List ℕ} {d : Depth} {p : ℕ} {t i : Tally} {w : Walk} {n m k l : ℕ} → n ≡ m → k ≡ l → CloseRead R s d p t i (a_repeat n k t) w → CloseRead R s d p t i (a_repeat m l t) w
closed_as e f h = rw (e, f) at h

-- A byte that is no command.
pub item_unknown : (R : Rules) (s : List ℕ) (d : Depth) (p : ℕ) (t : Tally) → NoClose s p → (get_or s p 0 ≡ 0x10 → ⊥) → (get_or s p 0 ≡ 0x11 → ⊥) → opens_in R.short (get_or s p 0) ≡ false → ItemRead R s d p t (record { refusal = 1; at = p; tally = none })
item_unknown R s d p t n a b c =
    item_refused R s d p t _ (λ z. omega arith)
    (λ os m x.
    stop R s p os t x 1 n.below (omega arith)
    (refusal_unknown R (at os t x) (drop (p + 1) s) (get_or s p 0)
    (rw (ne_eqb _ _ a, ne_eqb _ _ b, ne_eqb _ _ n.no_group_end, ne_eqb _ _ n.no_repeat_end, c))))
