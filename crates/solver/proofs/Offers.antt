-- The keys of the repeats of one width, offered count by count at the covers that they have.
use mathlib.Core.Path.{◌≡◌, refl, ◌∙◌}
use mathlib.Core.Logic.{◌⊎◌, inl, inr}
use mathlib.Core.List.{List}
use Prim.Native.Nat.{ℕ, suc, ◌+◌, ◌-◌, ◌*◌, ◌≤◌, ◌<◌, min}
use native.Mathlib.Nat.{mul-le-mul_right, le-mul_of_pos_right}
use native.Mathlib.Decide.{ℕ_discrete, dec_lt}
use native.Mathlib.Omega.{arith}
use lib.ListN.{length, get_or, set, length-set}
use lib.Seq.{get_or-set_same, get_or-set_other}
use Rattle.optimum.proofs.Matches.{copy_more}
use Rattle.solver.specs.Rows.{Came, Offering, offer_key}

-- What is in reach fits the lists.
pub in_reach : (g h d span : ℕ) → suc g ≡ h → 0 < d → span + d ≤ 1024 → g * d ≤ span → (h * d ≤ 1024) × (h ≤ 1024)
in_reach g h d span e pos l near =
    let m = copy_more g h d e in
    let n = le-mul_of_pos_right h pos in
    (omega arith, omega arith)

-- The counts from `from` up to below h are offered.
pub record Upto (prices : List ℕ) (cost d span from : ℕ) (before now : List ℕ) (h : ℕ) : Type 0 where
  pub late : from ≤ h
  pub same_length : length now ≡ length before
  pub lower : (c : ℕ) → get_or now c 0 ≤ get_or before c 0
  pub offered : (g : ℕ) → from ≤ g → g < h → get_or now (g * d) 0 ≤ offer_key prices cost d g
  pub came : (c : ℕ) → (get_or now c 0 ≡ get_or before c 0) ⊎ Came prices cost d span from c (get_or now c 0)

module _ (prices : List ℕ) (cost d span from : ℕ) (before : List ℕ) where
  pub upto_none : Upto prices cost d span from before before from
  upto_none = record {
    late = omega arith;
    same_length = refl;
    lower = λ c. omega arith;
    offered = λ g l m. absurd (omega arith);
    came = λ c. inl refl;
  }

  module _ (now : List ℕ) (h : ℕ) (u : Upto prices cost d span from before now h) where
    -- One count more: the lesser of its key and the one that is there is put in.
    pub upto_more : (k : ℕ) → (h - 1) * d ≤ span → h * d < length now → k ≡ min (get_or now (h * d) 0) (offer_key prices cost d h)
        → Upto prices cost d span from before (set now (h * d) k) (h + 1)
    upto_more k near fits least =
        let here : get_or (set now (h * d) k) (h * d) 0 ≡ k = get_or-set_same now (h * d) k 0 fits in
        let down : (c : ℕ) → get_or (set now (h * d) k) c 0 ≤ get_or now c 0 =
        λ c. elim (ℕ_discrete c (h * d)) [ yes e ↦ rw e (omega arith) | no e ↦ omega (arith, get_or-set_other now (h * d) c k 0 e) ] in
        record {
          late = omega (arith, u.late);
          same_length = length-set now (h * d) k ∙ u.same_length;
          lower = λ c. omega (arith, down c, u.lower c);
          offered = λ g a b. elim (ℕ_discrete g h) [
            | yes e ↦ rw e (omega arith)
            | no e ↦ omega (arith, down (g * d), u.offered g a (omega arith))
          ];
          came = λ c. elim (ℕ_discrete c (h * d)) [
            | yes e ↦ elim (dec_lt (offer_key prices cost d h) (get_or now (h * d) 0)) [
              | yes l ↦ rw e (inr (record { count = h; late = u.late; near = near; covers = refl; is_key = omega arith }))
              | no l ↦ let same : get_or (set now (h * d) k) (h * d) 0 ≡ get_or now (h * d) 0 = omega arith in rw (e, same) (u.came (h * d))
            ]
            | no e ↦ rw (get_or-set_other now (h * d) c k 0 e) (u.came c)
          ];
        }

    -- Once the next count is out of reach, all are offered.
    pub offering : span < (h - 1) * d → Offering prices cost d span from before now
    offering out = record {
      same_length = u.same_length;
      lower = u.lower;
      offered = λ g a near. elim (dec_lt g h) [
        | yes l ↦ u.offered g a l
        | no l ↦ let i : h - 1 ≤ g - 1 = omega arith in absurd (omega (arith, mul-le-mul_right d i))
      ];
      came = u.came;
    }
