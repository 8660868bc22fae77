-- Laws of lists by position: of one list behind another, and of copies; and when two lists are the same.
use mathlib.Core.Path.{◌≡◌, refl, sym, ap, ◌∙◌}
use mathlib.Core.Bool.{Bool, true, false, false≢true, ◌&&◌}
use mathlib.Core.List.{List, [], ◌∷◌, ◌++◌, map, map-append}
use mathlib.Core.Logic.{◌≢◌}
use mathlib.Core.Option
use mathlib.Core.Option.{none, some}
use Prim.Native.Nat.{ℕ, zero, suc, ◌+◌, ◌*◌, ◌-◌, ◌%◌, ◌≤◌, ◌<◌}
use native.Mathlib.Nat.{mod-eq_of_lt, add-mod_left}
use native.Mathlib.Decide.{dec_le}
use native.Mathlib.Omega.{arith}
use lib.Dec.{eqb}
use lib.ListN.{length, get_elem?}
use borrow.Author.Tests.{eq-eqb, eqb-true}
use Rattle.format.specs.Machine.{times}
use Rattle.index.specs.Index.{same}

module _ {A : Type 0} where
  pub nth_front : (xs ys : List A) (n : ℕ) → n < length xs → get_elem? (xs ++ ys) n ≡ get_elem? xs n
  nth_front [] ys n e = absurd (omega arith)
  nth_front (x ∷ xs) ys zero e = refl
  nth_front (x ∷ xs) ys (suc n) e = nth_front xs ys n (omega arith)

  pub nth_back : (xs ys : List A) (n m : ℕ) → m ≡ length xs + n → get_elem? (xs ++ ys) m ≡ get_elem? ys n
  nth_back [] ys n m e = let f : m ≡ n = omega arith in rw f
  nth_back (x ∷ xs) ys n zero e = absurd (omega arith)
  nth_back (x ∷ xs) ys n (suc m) e = nth_back xs ys n m (omega arith)

  -- There is an entry exactly below the length.
  pub nth_there : (xs : List A) (n : ℕ) → n < length xs → (x : A) × (get_elem? xs n ≡ some x)
  nth_there [] n e = absurd (omega arith)
  nth_there (x ∷ xs) zero e = (x, refl)
  nth_there (x ∷ xs) (suc n) e = nth_there xs n (omega arith)

  pub nth_past : (xs : List A) (n : ℕ) → length xs ≤ n → get_elem? xs n ≡ none
  nth_past [] n e = refl
  nth_past (x ∷ xs) zero e = absurd (omega arith)
  nth_past (x ∷ xs) (suc n) e = nth_past xs n (omega arith)

  -- Of copies, the entry at a position is that of one copy at the position modulo its length.
  pub nth_times : (h : ℕ) (xs : List A) (n : ℕ) → n < h * length xs → get_elem? (times h xs) n ≡ get_elem? xs (n % length xs)
  unfolding times
  nth_times zero xs n e = absurd (omega arith)
  nth_times (suc h) xs n e = go (dec_le (suc n) (length xs)) (λ m f. nth_times h xs m f)
    where
      go : Dec (n < length xs) → ((m : ℕ) → m < h * length xs → get_elem? (times h xs) m ≡ get_elem? xs (m % length xs))
          → get_elem? (xs ++ times h xs) n ≡ get_elem? xs (n % length xs)
      go (yes f) ih = nth_front xs (times h xs) n f ∙ rw (mod-eq_of_lt f)
      go (no f) ih =
          let m : ℕ = n - length xs in
          let split : n ≡ length xs + m = omega arith in
          nth_back xs (times h xs) m n split
          ∙ ih m (omega arith)
          ∙ ap (λ (k : ℕ). get_elem? xs k) (sym (add-mod_left (length xs) m) ∙ ap (λ (k : ℕ). k % length xs) (sym split))

-- Of a list whose entries are turned by a function.
module _ {A B : Type 0} (g : A → B) where
  pub nth_map : (xs : List A) (n : ℕ) → get_elem? (map g xs) n ≡ Option.map g (get_elem? xs n)
  nth_map [] n = refl
  nth_map (x ∷ xs) zero = refl
  nth_map (x ∷ xs) (suc n) = nth_map xs n

  pub map_times : (h : ℕ) (xs : List A) → map g (times h xs) ≡ times h (map g xs)
  unfolding times
  map_times zero xs = refl
  map_times (suc h) xs = map-append g xs (times h xs) ∙ ap (λ (r : List B). map g xs ++ r) (map_times h xs)

-- Two lists are the same exactly where `same` says so.
and-true : {a b : Bool} → a ≡ true → b ≡ true → (a && b) ≡ true
and-true e f = rw e f

pub same_refl : (xs : List ℕ) → same xs xs ≡ true
unfolding same
same_refl [] = refl
same_refl (x ∷ xs) = and-true (eq-eqb x x refl) (same_refl xs)

pub same_equal : (xs ys : List ℕ) → same xs ys ≡ true → xs ≡ ys
unfolding same
same_equal [] [] e = refl
same_equal [] (y ∷ ys) e = absurd (false≢true e)
same_equal (x ∷ xs) [] e = absurd (false≢true e)
same_equal (x ∷ xs) (y ∷ ys) e = go (eqb x y) refl e (λ f. same_equal xs ys f)
  where
    go : (b : Bool) → eqb x y ≡ b → (b && same xs ys) ≡ true → (same xs ys ≡ true → xs ≡ ys) → x ∷ xs ≡ y ∷ ys
    go true f e ih = cc (eqb-true x y f, ih e)
    go false f e ih = absurd (false≢true e)

pub same_apart : (xs ys : List ℕ) → xs ≢ ys → same xs ys ≡ false
same_apart xs ys apart = go (same xs ys) refl
  where
    go : (b : Bool) → same xs ys ≡ b → b ≡ false
    go true e = absurd (apart (same_equal xs ys e))
    go false e = refl
