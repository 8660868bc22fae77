-- Writing bytes behind each other from a place on, as far as there is room.
use mathlib.Core.Path.{◌≡◌, refl, sym, ap, ◌∙◌}
use mathlib.Core.List.{List, [], ◌∷◌, ◌++◌, append_assoc, append-nil}
use Prim.Native.Nat.{ℕ, zero, suc, ◌+◌, ◌-◌, ◌≤◌}
use native.Mathlib.Decide.{dec_le}
use native.Mathlib.Omega.{arith}
use lib.ListN.{length, length-append, length-set, length-drop, set, take, drop, drop_of_length-le}
use lib.Seq.{sets, set_out, take_all, length-sets}
use borrow.Rule.Slice.PartMut.{put_mid}
use Rattle.format.proofs.Lists.{sets_append}
use Rattle.put.specs.Written.{Written}

-- Nothing is stored past the end, and what is stored from a place on is stored in the part that begins there.
sets_out : (vs l : List ℕ) (i : ℕ) → length l ≤ i → sets l i vs ≡ l
sets_out [] l i h = refl
sets_out (v ∷ vs) l i h =
    sets_out vs (set l i v) (suc i) (rw length-set (omega arith)) ∙ set_out l i v h

sets_behind : (vs l : List ℕ) (x i : ℕ) → sets (x ∷ l) (suc i) vs ≡ x ∷ sets l i vs
sets_behind [] l x i = refl
sets_behind (v ∷ vs) l x i = sets_behind vs (set l i v) x (suc i)

sets_rest : (vs l : List ℕ) (i : ℕ) → sets l i vs ≡ take i l ++ sets (drop i l) 0 vs
sets_rest vs l zero = refl
sets_rest vs [] (suc i) = sets_out vs [] (suc i) (omega arith) ∙ sym (sets_out vs [] 0 (omega arith))
sets_rest vs (x ∷ l) (suc i) = sets_behind vs l x i ∙ ap (λ (r : List ℕ). x ∷ r) (sets_rest vs l i)

-- So a part that is lent from a place on, or the empty one where the list ends ahead of it, comes back as if it were stored there.
pub lent_back : (vs now after : List ℕ) (at start : ℕ) → (at ≤ length now → start ≡ at) → (length now ≤ at → start ≡ length now)
    → after ≡ sets (take (length now - start) (drop start now)) 0 vs
    → put_mid start (length now - start) now after ≡ sets now at vs
lent_back vs now after at start inside past e = by_place (dec_le at (length now))
  where
    whole : put_mid start (length now - start) now after ≡ sets now start vs
    whole =
        let size : length (drop start now) ≤ length now - start = omega (arith, length-drop start now) in
        let none : drop (length now - start) (drop start now) ≡ [] = drop_of_length-le (drop start now) {i = length now - start} size in
        rw (none, e, take_all (length now - start) (drop start now) size, append-nil (sets (drop start now) 0 vs))
        (sym (sets_rest vs now start))

    by_place : Dec (at ≤ length now) → put_mid start (length now - start) now after ≡ sets now at vs
    by_place (yes h) = whole ∙ rw (inside h)
    by_place (no h) =
        whole ∙ sets_out vs now start (omega (arith, past (omega arith))) ∙ sym (sets_out vs now at (omega arith))

-- The bytes `whole` are being written into `before` from the place `to` on: `at` is the place behind those that are done, and
-- `left` is still to come.
pub record Along (whole left : List ℕ) (to : ℕ) (before : List ℕ) (at : ℕ) (now : List ℕ) : Type 0 where
  pub done : List ℕ
  pub splits : done ++ left ≡ whole
  pub place : at ≡ to + length done
  pub list : now ≡ sets before to done

pub along_none : (whole : List ℕ) (to : ℕ) (before : List ℕ) → Along whole whole to before to before
along_none whole to before = record { done = []; splits = refl; place = omega arith; list = refl }

module _ {whole left : List ℕ} {to : ℕ} {before : List ℕ} {at : ℕ} {now : List ℕ} (z : Along whole left to before at now) where
  -- What is left ends where the whole does.
  pub along_end : at + length left ≡ to + length whole
  along_end = omega (arith, z.place, ap length z.splits, length-append z.done left)

  -- More is written behind: bytes, and one byte by a store.
  pub along_more : (x rest : List ℕ) (at' : ℕ) (now' : List ℕ) → left ≡ x ++ rest → at' ≡ at + length x → now' ≡ sets now at x
      → Along whole rest to before at' now'
  along_more x rest at' now' e f g =
      record {
        done = z.done ++ x;
        splits = append_assoc z.done x rest ∙ rw (← e) z.splits;
        place = omega (arith, z.place, length-append z.done x);
        list = g ∙ rw z.list (sym (sets_append z.done x before to at (sym z.place)));
      }

  pub along_byte : (v : ℕ) (rest : List ℕ) (now' : List ℕ) → left ≡ v ∷ rest → now' ≡ set now at v → Along whole rest to before (at + 1) now'
  along_byte v rest now' e g = along_more (v ∷ []) rest (at + 1) now' e refl g

-- With nothing left, all of it is written, and the place is behind it.
pub along_whole : {whole : List ℕ} {to : ℕ} {before : List ℕ} {at : ℕ} {now : List ℕ} → Along whole [] to before at now
    → (at ≡ to + length whole) × (now ≡ sets before to whole)
along_whole {whole} z =
    let all : z.done ≡ whole = sym (append-nil z.done) ∙ z.splits in
    (rw (← all) z.place, rw (← all) z.list)

-- Bytes are written when nothing of them is left.
pub all_written : {X : Type 0} {of_each : X → List ℕ} {to : ℕ} {before : List ℕ} {p : ℕ} {now : List ℕ}
    → ((x : X) → Along (of_each x) [] to before p now) → Written of_each to before now p
all_written f = record { is_end = λ x. (along_whole (f x)).0; written = λ x. (along_whole (f x)).1 }

-- The output is as long as it was.
pub written_kept : {X : Type 0} {of_each : X → List ℕ} {to : ℕ} {before after : List ℕ} {r : ℕ} → X → Written of_each to before after r
    → length after ≡ length before
written_kept {of_each = of_each} {to} {before} x w = ap length (w.written x) ∙ length-sets before to (of_each x)
