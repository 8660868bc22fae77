-- Laws of decimal and hexadecimal digits.
use mathlib.Core.Path.{◌≡◌, refl, sym, ap, ◌∙◌}
use mathlib.Core.List.{List, [], ◌∷◌, ◌++◌}
use Prim.Native.Nat.{ℕ, zero, suc, ◌+◌, ◌*◌, ◌^◌, ◌/◌, ◌%◌, ◌≤◌, ◌<◌}
use native.Mathlib.Nat.{pow-succ'}
use native.Mathlib.Omega.{arith}
use native.Mathlib.Decide.{dec_lt}
use borrow.Author.Tests.{lt-ltb, le-ltb}
use native.Mathlib.Numerals.{add-one}
use lib.ListN.{length, length-append, get_or, set, take}
use lib.Seq.{take-suc, take-length}
use Rattle.fold.specs.PutText.{PutText}
use Rattle.fold.proofs.Puts.{put_one, put_two, put_both, put_same, put_length}
use Rattle.fold.specs.Text.{digit, digits, decimal, hexadecimal, fold_text, line}

-- One digit; several: those ahead of the last, then the last.
digits_one : (k n : ℕ) → n < 10 → digits (suc k) n ≡ digit n ∷ []
unfolding digits
digits_one k n h = rw (lt-ltb n 10 h)

digits_more : (k n : ℕ) → 10 ≤ n → digits (suc k) n ≡ digits k (n / 10) ++ digit (n % 10) ∷ []
unfolding digits
digits_more k n h = rw (le-ltb n 10 h)

-- Any bound above the number gives all its digits.
digits_all : (k m n : ℕ) → n < k → n < m → digits k n ≡ digits m n
digits_all zero m n h g = absurd (omega arith)
digits_all (suc k) zero n h g = absurd (omega arith)
digits_all (suc k) (suc m) n h g =
    elim (dec_lt n 10) [
      | yes one ↦ digits_one k n one ∙ sym (digits_one m n one)
      | no more ↦
          digits_more k n (omega arith)
          ∙ ap (λ (s : List ℕ). s ++ digit (n % 10) ∷ []) (digits_all k m (n / 10) (omega arith) (omega arith))
          ∙ sym (digits_more m n (omega arith))
    ]

pub decimal_one : (n : ℕ) → n < 10 → decimal n ≡ digit n ∷ []
unfolding decimal
decimal_one n h = digits_one n n h

pub decimal_more : (n : ℕ) → 10 ≤ n → decimal n ≡ decimal (n / 10) ++ digit (n % 10) ∷ []
unfolding decimal
decimal_more n h =
    digits_more n n h
    ∙ ap (λ (s : List ℕ). s ++ digit (n % 10) ∷ []) (digits_all n (suc (n / 10)) (n / 10) (omega arith) (omega arith))

pub one_longer : (n : ℕ) → 10 ≤ n → length (decimal n) ≡ length (decimal (n / 10)) + 1
one_longer n h = ap length (decimal_more n h) ∙ length-append (decimal (n / 10)) (digit (n % 10) ∷ [])

-- A number below 10 to the k has at most k digits; one of 64 bits at most 20.
short_decimal : (k n : ℕ) → n < 10 ^ suc k → length (decimal n) ≤ suc k
short_decimal zero n h = omega (arith, ap length (decimal_one n (omega arith)))
short_decimal (suc k) n h =
    elim (dec_lt n 10) [
      | yes one ↦ omega (arith, ap length (decimal_one n one))
      | no more ↦
          omega (arith, one_longer n (omega arith), short_decimal k (n / 10) (omega (arith, pow-succ' 10 (suc k))))
    ]

pub decimal_length : (n : ℕ) → n < 18446744073709551616 → length (decimal n) ≤ 20
decimal_length n h = short_decimal 19 n (omega arith)

-- Two digits for each byte, one behind the other.
pub hexadecimal_length : (s : List ℕ) → length (hexadecimal s) ≡ 2 * length s
unfolding hexadecimal
hexadecimal_length [] = refl
hexadecimal_length (b ∷ s) = omega (arith, hexadecimal_length s)

pub hexadecimal_next : (s : List ℕ) (b : ℕ) → hexadecimal (s ++ b ∷ []) ≡ hexadecimal s ++ digit (b / 16) ∷ digit (b % 16) ∷ []
unfolding hexadecimal
hexadecimal_next [] b = refl
hexadecimal_next (a ∷ s) b =
    ap (λ (t : List ℕ). digit (a / 16) ∷ digit (a % 16) ∷ t) (hexadecimal_next s b)

-- A fold that is not empty is its digits.
pub fold_text_some : (s : List ℕ) → 0 < length s → fold_text s ≡ hexadecimal s
unfolding fold_text
fold_text_some [] h = absurd (omega arith)
fold_text_some (b ∷ s) h = refl

pub fold_text_none : (s : List ℕ) → length s ≡ 0 → fold_text s ≡ 45 ∷ []
unfolding fold_text
fold_text_none [] h = refl
fold_text_none (b ∷ s) h = absurd (omega arith)

pub fold_text_length : (s : List ℕ) → length (fold_text s) ≤ 1 + 2 * length s
unfolding fold_text
fold_text_length [] = omega arith
fold_text_length (b ∷ s) = omega (arith, hexadecimal_length (b ∷ s))

-- A digit written behind what is there: the only one of a number, its last one, the two of one byte more.
pub put_only : (x : List ℕ) (i n d : ℕ) → n < 10 → d ≡ digit n → i < length x → PutText x (set x i d) i (decimal n) (i + 1)
put_only x i n d small e room = put_same (ap (λ (b : ℕ). b ∷ []) e ∙ sym (decimal_one n small)) (put_one x i d room)

pub put_last : {x y : List ℕ} {i j : ℕ} (n d : ℕ) → 10 ≤ n → d ≡ digit (n % 10) → PutText x y i (decimal (n / 10)) j → j < length x
    → PutText x (set y j d) i (decimal n) (j + 1)
put_last {y = y} {j = j} n d large e p room =
    put_same (ap (λ (b : ℕ). decimal (n / 10) ++ b ∷ []) e ∙ sym (decimal_more n large)) (put_both p (put_one y j d (omega (arith, put_length p))))

pub put_byte : {x y : List ℕ} {i j : ℕ} (s : List ℕ) (k high low : ℕ) → high ≡ digit (get_or s k 0 / 16)
    → low ≡ digit (get_or s k 0 % 16) → PutText x y i (hexadecimal (take k s)) j → k < length s → j + 1 < length x
    → PutText x (set (set y j high) (j + 1) low) i (hexadecimal (take (k + 1) s)) (j + 2)
put_byte {y = y} {j = j} s k high low e f p h room =
    let two : hexadecimal (take k s) ++ high ∷ low ∷ [] ≡ hexadecimal (take (k + 1) s) =
    rw (e, f) (sym (rw (add-one, take-suc s k 0 h) (hexadecimal_next (take k s) (get_or s k 0)))) in
    put_same two (put_both p (put_two y j high low (omega (arith, put_length p))))

pub put_every : {x y : List ℕ} {i j : ℕ} (s : List ℕ) (k : ℕ) → k ≡ length s → PutText x y i (hexadecimal (take k s)) j
    → PutText x y i (hexadecimal s) j
put_every s k e p = put_same (ap (λ (n : ℕ). hexadecimal (take n s)) e ∙ ap hexadecimal (take-length s)) p

-- The line of a number of 64 bits is at most 21 bytes longer than its word.
pub line_reached : {x y : List ℕ} {i j : ℕ} (word : List ℕ) (n : ℕ) → n < 18446744073709551616
    → PutText x y i (line word (decimal n)) j → j ≤ i + length word + 21
line_reached word n small p =
    omega (
      arith,
      p.reached,
      length-append (word ++ decimal n) (10 ∷ []),
      length-append word (decimal n),
      decimal_length n small,
    )
