-- Choosing finds a pair of least rank.
use mathlib.Core.Path.{◌≡◌, refl}
use Prim.Native.Nat.{ℕ, zero, suc, ◌/◌, ◌≤◌, ◌<◌}
use native.Mathlib.Nat.{le-div_iff_mul-le}
use native.Mathlib.Decide.{ℕ_discrete, dec_lt}
use native.Mathlib.Omega.{arith}
use Rattle.format.specs.Limits.{Prices}
use Rattle.format.specs.Forest.{Forest, siblings, cost, Allowed}
use Rattle.optimum.specs.Cheapest.{Power, Candidate, plain, power, build, price, Bases, rank, own, Least, Choice, offer, score, keep, lesser, power_dec, weigh, sweep, choose_count, choose}
use Rattle.optimum.proofs.Powers.{reach}
use Rattle.optimum.proofs.Least.{cost_build}

-- A sweep of steps that never raise a score keeps what each step keeps, and reaches what one of its steps reaches.
module _ (size : Choice → ℕ) (f : ℕ → Choice → Choice) (down : (k : ℕ) (x : Choice) → size (f k x) ≤ size x) where
  sweep_down : (n : ℕ) (x : Choice) → size (sweep f n x) ≤ size x
  unfolding sweep
  sweep_down zero x = omega arith
  sweep_down (suc n) x = omega (arith, sweep_down n (f (suc n) x), down (suc n) x)

  sweep_reach : (k m : ℕ) → ((x : Choice) → size (f k x) ≤ m) → 0 < k → (n : ℕ) → k ≤ n → (x : Choice) → size (sweep f n x) ≤ m
  unfolding sweep
  sweep_reach k m h p zero l x = absurd (omega arith)
  sweep_reach k m h p (suc n) l x = at (ℕ_discrete k (suc n)) (λ i. sweep_reach k m h p n i (f (suc n) x))
    where
      at : Dec (k ≡ suc n) → (k ≤ n → size (sweep f n (f (suc n) x)) ≤ m) → size (sweep f n (f (suc n) x)) ≤ m
      at (yes e) go = omega (arith, sweep_down n (f (suc n) x), rw e at (h x))
      at (no e) go = go (omega arith)

sweep_keeps : (Q : Choice → Type 0) (f : ℕ → Choice → Choice) → ((k : ℕ) (x : Choice) → Q x → Q (f k x))
    → (n : ℕ) (x : Choice) → Q x → Q (sweep f n x)
unfolding sweep
sweep_keeps Q f h zero x q = q
sweep_keeps Q f h (suc n) x q = sweep_keeps Q f h n (f (suc n) x) (h (suc n) x q)

-- The lesser of two choices is one of them, and no more than either.
module _ (size : Choice → ℕ) (x y : Choice) where
  keep_left : (d : Dec (size y < size x)) → size (keep d x y) ≤ size x
  unfolding keep
  keep_left (yes l) = omega arith
  keep_left (no l) = omega arith

  keep_right : (d : Dec (size y < size x)) → size (keep d x y) ≤ size y
  unfolding keep
  keep_right (yes l) = omega arith
  keep_right (no l) = omega arith

  keep_one : (Q : Choice → Type 0) (d : Dec (size y < size x)) → Q x → Q y → Q (keep d x y)
  unfolding keep
  keep_one Q (yes l) p q = q
  keep_one Q (no l) p q = p

-- A choice that may be made: its pair may stand first, and its fold is the one that the pair builds.
record Fair (A : Allowed) (go : Forest → Forest) (t : Forest) (x : Choice) : Type 0 where
  may : Candidate A t x.count x.width
  built : x.fold ≡ build go t x.count x.width

fair_score : {A : Allowed} {go : Forest → Forest} {t : Forest} (P : Prices) (B : Bases) (x : Choice) → Fair A go t x
    → score P B x ≡ rank B (price P (λ y. cost P (go y)) t x.count x.width) x.count x.width
unfolding score
fair_score P B x q = rw (q.built, cost_build)

-- Weighing a pair never raises the score, comes down to the pair's own, and stays fair.
module _ (A : Allowed) (P : Prices) (B : Bases) (go : Forest → Forest) (t : Forest) (h w : ℕ) where
  weigh_down : (d : Dec (Power A t h w)) (x : Choice) → score P B (weigh P B go d x) ≤ score P B x
  unfolding weigh lesser
  weigh_down (yes p) x = keep_left (score P B) x (offer go t h w) (dec_lt _ _)
  weigh_down (no p) x = omega arith

  weigh_reach : (d : Dec (Power A t h w)) (x : Choice) → Power A t h w → score P B (weigh P B go d x) ≤ score P B (offer go t h w)
  unfolding weigh lesser
  weigh_reach (yes p) x q = keep_right (score P B) x (offer go t h w) (dec_lt _ _)
  weigh_reach (no p) x q = absurd (p q)

  weigh_fair : (d : Dec (Power A t h w)) (x : Choice) → Fair A go t x → Fair A go t (weigh P B go d x)
  unfolding weigh lesser offer
  weigh_fair (yes p) x q =
      keep_one (score P B) x (offer go t h w) (Fair A go t) (dec_lt _ _) q (record { may = power p; built = refl })
  weigh_fair (no p) x q = q

-- So does weighing all counts at one width, and all widths.
module _ (A : Allowed) (P : Prices) (go : Forest → Forest) (t : Forest) where
  count_down : (w : ℕ) (x : Choice) → score P (own t) (choose_count A P go t w x) ≤ score P (own t) x
  unfolding choose_count
  count_down w =
      sweep_down (score P (own t)) _ (λ h. weigh_down A P (own t) go t h w (power_dec A t h w)) (siblings t / w)

  count_reach : (h w : ℕ) → Power A t h w → (x : Choice)
      → score P (own t) (choose_count A P go t w x) ≤ score P (own t) (offer go t h w)
  unfolding choose_count
  count_reach h w p =
      let r = reach p in
      sweep_reach (score P (own t)) _ (λ k. weigh_down A P (own t) go t k w (power_dec A t k w))
      h (score P (own t) (offer go t h w)) (λ x. weigh_reach A P (own t) go t h w (power_dec A t h w) x p)
      (omega (arith, p.repeats.twice)) (siblings t / w) ((le-div_iff_mul-le r.some).1 r.covers)

  count_fair : (w : ℕ) (x : Choice) → Fair A go t x → Fair A go t (choose_count A P go t w x)
  unfolding choose_count
  count_fair w = sweep_keeps (Fair A go t) _ (λ h. weigh_fair A P (own t) go t h w (power_dec A t h w)) (siblings t / w)

  choose_down : (h w : ℕ) → Candidate A t h w → score P (own t) (choose A P go t) ≤ score P (own t) (offer go t h w)
  unfolding choose
  choose_down h w plain = sweep_down (score P (own t)) (choose_count A P go t) count_down (siblings t) (offer go t 0 0)
  choose_down h w (power p) =
      let r = reach p in
      sweep_reach (score P (own t)) (choose_count A P go t) count_down
      w (score P (own t) (offer go t h w)) (count_reach h w p) r.some (siblings t) (omega arith) (offer go t 0 0)

  choose_fair : Fair A go t (choose A P go t)
  unfolding choose offer
  choose_fair =
      sweep_keeps (Fair A go t) (choose_count A P go t) count_fair (siblings t) (offer go t 0 0)
      (record { may = plain; built = refl })

  pub choose_least : Least A P (own t) (λ x. cost P (go x)) t (choose A P go t).count (choose A P go t).width
  unfolding offer
  choose_least = record {
    candidate = choose_fair.may;
    least = λ h w d.
        let e = fair_score P (own t) (choose A P go t) choose_fair in
        let e' = fair_score P (own t) (offer go t h w) (record { may = d; built = refl }) in
        omega (arith, choose_down h w d);
  }

  pub choose_built : (choose A P go t).fold ≡ build go t (choose A P go t).count (choose A P go t).width
  choose_built = choose_fair.built
