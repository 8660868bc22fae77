-- The order of ranks is the order of their digits: cost, then count, then width.
use mathlib.Core.Path.{◌≡◌}
use Prim.Native.Nat.{ℕ, suc, ◌+◌, ◌*◌, ◌≤◌, ◌<◌}
use native.Mathlib.Nat.{suc-mul, add-mul, mul_assoc, mul-le-mul_right}
use native.Mathlib.Decide.{dec_le, dec_lt}
use native.Mathlib.Omega.{arith}
use Rattle.optimum.specs.Cheapest.{Bases, rank, usual}

-- One pair is sooner than another: a smaller count, or the same and a smaller width.
pub data Sooner (h w h' w' : ℕ) : Type 0 where
  fewer : h < h' → Sooner h w h' w'
  narrower : h ≡ h' → w < w' → Sooner h w h' w'

-- Two lists of digits in order: a lower cost, or the same and a sooner pair, or the same throughout.
pub data Ranked (c h w c' h' w' : ℕ) : Type 0 where
  lower : c < c' → Ranked c h w c' h' w'
  sooner : c ≡ c' → Sooner h w h' w' → Ranked c h w c' h' w'
  equal : c ≡ c' → h ≡ h' → w ≡ w' → Ranked c h w c' h' w'

-- Numbers of two digits: if they are in order so are the high digits, and if the high digits are apart so are they.
pub high_le : (b a d a' d' : ℕ) → d' < b → a * b + d ≤ a' * b + d' → a ≤ a'
high_le b a d a' d' l h = elim (dec_le a a') [
  | yes i ↦ i
  | no i ↦ let e : suc a' ≤ a = omega arith in absurd (omega (arith, mul-le-mul_right b e, suc-mul a' b))
]

pub high_lt : (b a d a' d' : ℕ) → d < b → a < a' → a * b + d < a' * b + d'
high_lt b a d a' d' l h = omega (arith, mul-le-mul_right b h, suc-mul a b)

-- The order of ranks is the order of the digits.
pub ranked : (B : Bases) (c h w c' h' w' : ℕ) → h' < B.counts → w' < B.widths → rank B c h w ≤ rank B c' h' w'
    → Ranked c h w c' h' w'
unfolding rank
ranked B c h w c' h' w' lh lw le =
    let x : ℕ = c * B.counts + h in
    let x' : ℕ = c' * B.counts + h' in
    let i : x ≤ x' = high_le B.widths x w x' w' lw le in
    let j : c ≤ c' = high_le B.counts c h c' h' lh i in
    elim (dec_lt c c') [
      | yes k ↦ lower k
      | no k ↦
          let e : c ≡ c' = omega arith in
          let m : c * B.counts ≡ c' * B.counts = rw e in
          elim (dec_lt h h') [
            | yes k ↦ sooner e (fewer k)
            | no k ↦
                let f : h ≡ h' = omega arith in
                let n : x * B.widths ≡ x' * B.widths = rw (e, f) in
                elim (dec_lt w w') [ yes k ↦ sooner e (narrower f k) | no k ↦ equal e f (omega arith) ]
          ]
    ]

pub rank_le : (B : Bases) (c h w c' h' w' : ℕ) → h < B.counts → w < B.widths → Ranked c h w c' h' w'
    → rank B c h w ≤ rank B c' h' w'
unfolding rank
rank_le B c h w c' h' w' lh lw (lower k) =
    omega (arith, high_lt B.widths (c * B.counts + h) w (c' * B.counts + h') w' lw (high_lt B.counts c h c' h' lh k))
rank_le B c h w c' h' w' lh lw (sooner e (fewer k)) =
    rw e (omega (arith, high_lt B.widths (c' * B.counts + h) w (c' * B.counts + h') w' lw (omega arith)))
rank_le B c h w c' h' w' lh lw (sooner e (narrower f k)) = rw (e, f) (omega arith)
rank_le B c h w c' h' w' lh lw (equal e f g) = rw (e, f, g) (omega arith)

-- Ranks that are equal have the same digits.
pub rank_inj : (B : Bases) (c h w c' h' w' : ℕ) → h < B.counts → w < B.widths → h' < B.counts → w' < B.widths
    → rank B c h w ≡ rank B c' h' w' → (c ≡ c') × (h ≡ h') × (w ≡ w')
unfolding rank
rank_inj B c h w c' h' w' lh lw lh' lw' e =
    let x : ℕ = c * B.counts + h in
    let x' : ℕ = c' * B.counts + h' in
    let i : x ≤ x' = high_le B.widths x w x' w' lw' (omega arith) in
    let i' : x' ≤ x = high_le B.widths x' w' x w lw (omega arith) in
    let j : c ≤ c' = high_le B.counts c h c' h' lh' i in
    let j' : c' ≤ c = high_le B.counts c' h' c h lh i' in
    let a : c ≡ c' = omega arith in
    let m : c * B.counts ≡ c' * B.counts = rw a in
    let b : h ≡ h' = omega arith in
    let n : x * B.widths ≡ x' * B.widths = rw (a, b) in
    (a, b, omega arith)

-- More cost is so much more rank.
pub rank_add : (B : Bases) (c d h w : ℕ) → rank B (c + d) h w ≡ rank B c h w + d * (B.counts * B.widths)
unfolding rank
rank_add B c d h w = simp (add-mul, mul_assoc) (omega arith)

-- A program's key.
pub rank_usual : (c h w : ℕ) → rank usual c h w ≡ c * 2097152 + h * 1024 + w
unfolding rank
rank_usual c h w = omega arith
