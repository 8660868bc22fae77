-- Laws of texts that are written one behind the other.
use mathlib.Core.Path.{◌≡◌, refl, sym, ap, ◌∙◌}
use mathlib.Core.List.{List, [], ◌∷◌, ◌++◌}
use Prim.Native.Nat.{ℕ, ◌+◌, ◌≤◌, ◌<◌}
use native.Mathlib.Omega.{arith}
use native.Mathlib.Numerals.{add-one}
use lib.ListN.{length, length-append, get_or, set, take}
use lib.Seq.{sets, length-sets, take-suc, take-length}
use Rattle.format.proofs.Lists.{sets_append}
use Rattle.fold.specs.PutText.{PutText}

-- The length stays.
pub put_length : {x y : List ℕ} {i j : ℕ} {s : List ℕ} → PutText x y i s j → length y ≡ length x
put_length {x} {i = i} {s = s} p = ap length p.written ∙ length-sets x i s

-- Nothing; one byte; two; one text behind another.
pub put_none : (x : List ℕ) (i : ℕ) → i ≤ length x → PutText x x i [] i
put_none x i h = record { reached = omega arith; within = h; written = refl }

pub put_one : (x : List ℕ) (i b : ℕ) → i < length x → PutText x (set x i b) i (b ∷ []) (i + 1)
put_one x i b h = record { reached = refl; within = omega arith; written = refl }

pub put_two : (x : List ℕ) (i a b : ℕ) → i + 1 < length x → PutText x (set (set x i a) (i + 1) b) i (a ∷ b ∷ []) (i + 2)
put_two x i a b h = record { reached = refl; within = omega arith; written = rw add-one }

pub put_both : {x y z : List ℕ} {i j k : ℕ} {s t : List ℕ} → PutText x y i s j → PutText y z j t k → PutText x z i (s ++ t) k
put_both {x} {i = i} {j = j} {s = s} {t = t} p q =
    record {
      reached = omega (arith, length-append s t, p.reached, q.reached);
      within = omega (arith, put_length p);
      written = q.written ∙ ap (λ (y : List ℕ). sets y j t) p.written ∙ sym (sets_append s t x i j (sym p.reached));
    }

-- A text that is the same, by another name.
pub put_same : {x y : List ℕ} {i j : ℕ} {s t : List ℕ} → s ≡ t → PutText x y i s j → PutText x y i t j
put_same {x} {y} {i} {j} e p = rw e at p

-- A beginning of some bytes, and one byte more.
pub put_next : {x y : List ℕ} {i : ℕ} (bytes : List ℕ) (k : ℕ) → k < length bytes → PutText x y i (take k bytes) (i + k) → i + k < length x
    → PutText x (set y (i + k) (get_or bytes k 0)) i (take (k + 1) bytes) (i + (k + 1))
put_next {x} {y} {i} bytes k h p room =
    let e : take (k + 1) bytes ≡ take k bytes ++ get_or bytes k 0 ∷ [] = rw add-one (take-suc bytes k 0 h) in
    let f : i + (k + 1) ≡ i + k + 1 = omega arith in
    rw (e, f) (put_both p (put_one y (i + k) (get_or bytes k 0) (omega (arith, put_length p))))

pub put_whole : {x y : List ℕ} {i : ℕ} (bytes : List ℕ) (k : ℕ) → k ≡ length bytes → PutText x y i (take k bytes) (i + k)
    → PutText x y i bytes (i + k)
put_whole {x} {y} {i} bytes k h p = put_same (ap (λ (n : ℕ). take n bytes) h ∙ take-length bytes) p
