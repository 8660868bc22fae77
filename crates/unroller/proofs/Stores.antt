-- Laws of stores one behind the other, and of copies that a loop reads out of what it has written.
use mathlib.Core.Path.{◌≡◌, refl, sym, ap, ◌∙◌}
use mathlib.Core.List.{List, [], ◌∷◌, ◌++◌, append_assoc, append-nil}
use Prim.Native.Nat.{ℕ, zero, suc, ◌+◌, ◌*◌, ◌-◌, ◌≤◌, ◌<◌}
use native.Mathlib.Decide.{dec_le}
use native.Mathlib.Omega.{arith}
use lib.ListN.{length, length-append, length-drop, get_or, get_or-append, set, length-set, take, drop}
use lib.Seq.{sets, sets-eq, take_at, drop_at, length-take-le, take_all, take-suc, get_or-set_same, get_or-set_other, get_or-take, get_or-drop, get_or-append-add}
use Rattle.format.specs.Machine.{times}
use Rattle.format.proofs.Bridge.{length_times}
use Rattle.format.proofs.Lists.{sets_append}

-- What stands before the stores, and what stands where they went.
pub sets_below : (vs l : List ℕ) (i k : ℕ) → k < i → get_or (sets l i vs) k 0 ≡ get_or l k 0
sets_below [] l i k e = refl
sets_below (v ∷ vs) l i k e =
    sets_below vs (set l i v) (suc i) k (omega arith) ∙ get_or-set_other l i k v 0 (λ z. omega arith)

pub sets_there : (vs l : List ℕ) (i j k : ℕ) → i + length vs ≤ length l → j < length vs → i + j ≡ k
    → get_or (sets l i vs) k 0 ≡ get_or vs j 0
sets_there [] l i j k fits e f = absurd (omega arith)
sets_there (v ∷ vs) l i zero k fits e f =
    let z : k ≡ i = omega arith in
    rw z (sets_below vs (set l i v) (suc i) i (omega arith) ∙ get_or-set_same l i v 0 (omega arith))
sets_there (v ∷ vs) l i (suc j) k fits e f =
    sets_there vs (set l i v) (suc i) j k (rw length-set (omega arith)) (omega arith) (omega arith)

-- The stores read back as a part.
pub sets_part : (vs l : List ℕ) (i j : ℕ) → i + length vs ≤ length l → j ≡ i + length vs → drop i (take j (sets l i vs)) ≡ vs
sets_part vs l i j fits e =
    let front : length (take i l) ≡ i = length-take-le i l (omega arith) in
    let both : length (take i l ++ vs) ≡ j = length-append (take i l) vs ∙ omega (arith, front) in
    rw (sets-eq vs l i fits, take_at (take i l ++ vs) (drop (i + length vs) l) j both)
    (drop_at (take i l) vs i front)

-- A copy may be taken off at either end, so copies repeat themselves.
times_last : (n : ℕ) (x : List ℕ) → x ++ times n x ≡ times n x ++ x
unfolding times
times_last zero x = append-nil x
times_last (suc n) x = ap (λ (r : List ℕ). x ++ r) (times_last n x) ∙ sym (append_assoc x (times n x) x)

first_copy : (n : ℕ) (x : List ℕ) (k : ℕ) → k < length x → k < length (times n x) → get_or (times n x) k 0 ≡ get_or x k 0
unfolding times
first_copy zero x k e f = absurd (omega arith)
first_copy (suc n) x k e f = get_or-append x (times n x) 0 k e

later_copy : (n : ℕ) (x : List ℕ) (j k : ℕ) → length x + j ≡ k → k < length (times n x)
    → get_or (times n x) k 0 ≡ get_or (times n x) j 0
unfolding times
later_copy zero x j k e f = absurd (omega arith)
later_copy (suc n) x j k e f =
    let g : j < length (times n x) = omega (arith, length-append x (times n x)) in
    rw (← e) (get_or-append-add x (times n x) j 0 ∙ sym (get_or-append (times n x) x 0 j g) ∙ rw (times_last n x))

-- The part from `start` to `to` is being copied on behind `to`, `more` times and byte by byte, as far as i.
pub record Copying (before : List ℕ) (start to more : ℕ) (now : List ℕ) (i : ℕ) : Type 0 where
  pub list : now ≡ sets before to (take (i - to) (times more (drop start (take to before))))
  pub kept : length now ≡ length before

module _ (before : List ℕ) (start to more : ℕ) (order : start ≤ to) (fits : to + more * (to - start) ≤ length before) where
  source : List ℕ
  source = drop start (take to before)

  source_length : length source ≡ to - start
  unfolding source
  source_length =
      let e : length (take to before) ≡ to = length-take-le to before (omega arith) in
      length-drop start (take to before) ∙ rw e

  copies_length : length (times more source) ≡ more * (to - start)
  copies_length = length_times more source ∙ rw source_length

  pub copying_none : Copying before start to more before to
  copying_none =
      let e : to - to ≡ 0 = omega arith in
      record { list = rw e; kept = refl }

  module _ {now : List ℕ} {i : ℕ} (z : Copying before start to more now i) where
    pub copying_all : to + more * (to - start) ≤ i → now ≡ sets before to (times more (drop start (take to before)))
    unfolding source
    copying_all e = z.list ∙ rw (take_all (i - to) (times more source) (omega (arith, copies_length)))

    module _ (reached : to ≤ i) (left : i < to + more * (to - start)) where
      -- Where something is left to copy, a copy is not empty.
      pub some : start < to
      some = by_order (dec_le to start)
        where
          by_order : Dec (to ≤ start) → start < to
          by_order (yes y) =
              let e : to - start ≡ 0 = omega arith in
              let f : more * (to - start) ≡ 0 = rw e (omega arith) in
              omega arith
          by_order (no y) = omega arith

      written : List ℕ
      written = take (i - to) (times more source)

      written_length : length written ≡ i - to
      unfolding written
      written_length = length-take-le (i - to) (times more source) (omega (arith, copies_length))

      -- What is read is one copy behind.
      abbrev from : ℕ
      from = i - (to - start)

      -- What is read at a turn is what has to be written: in the first copy it is the source's byte, and later the byte that
      -- was written one copy before.
      reads_right : get_or now from 0 ≡ get_or (times more source) (i - to) 0
      unfolding source written
      reads_right = rw z.list (by_turn (dec_le to from))
        where
          by_turn : Dec (to ≤ from) → get_or (sets before to written) from 0 ≡ get_or (times more source) (i - to) 0
          by_turn (yes y) =
              sets_there written before to (from - to) from (omega (arith, written_length)) (omega (arith, written_length, some)) (omega arith)
              ∙ get_or-take (i - to) (times more source) (from - to) 0 (omega (arith, some))
              ∙ sym (later_copy more source (from - to) (i - to) (omega (arith, source_length)) (omega (arith, copies_length)))
          by_turn (no y) =
              let e : start + (i - to) ≡ from = omega arith in
              sets_below written before to from (omega arith)
              ∙ sym
              (first_copy more source (i - to) (omega (arith, source_length)) (omega (arith, copies_length))
              ∙ rw (get_or-drop start (take to before) (i - to) 0, e) (get_or-take to before from 0 (omega arith)))

      pub copying_more : Copying before start to more (set now i (get_or now from 0)) (i + 1)
      unfolding source written
      copying_more =
          let e : i + 1 - to ≡ suc (i - to) = omega arith in
          record {
            list =
                rw (reads_right, z.list, e, take-suc (times more source) (i - to) 0 (omega (arith, copies_length)))
                (sym (sets_append written (get_or (times more source) (i - to) 0 ∷ []) before to i (omega (arith, written_length))));
            kept = simp length-set z.kept;
          }
