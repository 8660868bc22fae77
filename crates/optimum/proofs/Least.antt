-- The step: a pair of least rank and the optimal folds of the parts make the optimal fold.
use mathlib.Core.Path.{◌≡◌, refl, ap, ◌∙◌}
use Prim.Native.Nat.{ℕ, zero, suc, ◌+◌, ◌-◌, ◌*◌, ◌≤◌, ◌<◌}
use native.Mathlib.Decide.{dec_lt}
use native.Mathlib.Omega.{arith}
use Rattle.format.specs.Limits.{Prices, of_repeat}
use Rattle.format.specs.Forest.{Forest, end, step, group, repeat, unroll, siblings, nodes, cost, Allowed, Sound}
use Rattle.format.proofs.Forests.{siblings_unroll}
use Rattle.optimum.specs.Optimal.{FoldOf, NoWorse, cheaper, same, earlier, Optimal}
use Rattle.optimum.specs.Cheapest.{Run, front, back, Power, Candidate, plain, power, build, price, Bases, rank, Spans, Least}
use Rattle.optimum.proofs.Cut.{front_front, back_front, run_front, run_back, run_rest, run_body, run_after}
use Rattle.optimum.proofs.Powers.{reach}
use Rattle.optimum.proofs.Rank.{Ranked, lower, sooner, equal, ranked, rank_le, rank_inj}
use Rattle.optimum.proofs.Pieces.{no_dearer, step_no_worse, group_no_worse, repeat_no_worse}
use Rattle.optimum.proofs.Items.{count_of, width_of, sooner_before, power_body_less, power_rest_less, Parts, whole, parts, candidate_of, count_build, width_build}

-- The price of a pair is the cost of the fold that it builds.
pub cost_build : (P : Prices) (go : Forest → Forest) (t : Forest) (h w : ℕ)
    → cost P (build go t h w) ≡ price P (λ x. cost P (go x)) t h w
unfolding build price cost
cost_build P go end zero w = refl
cost_build P go (step l f) zero w = refl
cost_build P go (group l b f) zero w = refl
cost_build P go (repeat k v b f) zero w = refl
cost_build P go t (suc h) w = refl

-- The price of a repeat, in the run and in a beginning of it that reaches at least as far.
pub price_power : (P : Prices) (c : Forest → ℕ) (t : Forest) (h w : ℕ) → 2 ≤ h
    → price P c t h w ≡ of_repeat P h + c (front w t) + c (back (h * w) t)
unfolding price
price_power P c t zero w l = absurd (omega arith)
price_power P c t (suc h) w l = refl

pub price_piece : {A : Allowed} (P : Prices) (c : Forest → ℕ) (t : Forest) (h w m n : ℕ) → Power A t h w → h * w + m ≡ n
    → price P c (front n t) h w ≡ of_repeat P h + c (front w t) + c (front m (back (h * w) t))
price_piece P c t h w m n p e =
    let r = reach p in
    let k : w + (h * w - w + m) ≡ n = omega arith in
    price_power P c (front n t) h w p.repeats.twice ∙ rw (front_front w (h * w - w + m) n t k, back_front (h * w) m n t e)

-- The pair of least rank is unique, and the same by any bases that are large enough.
module _ (A : Allowed) (P : Prices) (B : Bases) (c : Forest → ℕ) (t : Forest) (h w : ℕ) where
  pub least_unique : (h' w' : ℕ) → Spans A B t → Least A P B c t h w → Least A P B c t h' w' → (h ≡ h') × (w ≡ w')
  least_unique h' w' s l l' =
      let d = l.candidate in
      let d' = l'.candidate in
      let i = l.least h' w' d' in
      let j = l'.least h w d in
      let e : rank B (price P c t h w) h w ≡ rank B (price P c t h' w') h' w' = omega arith in
      let r =
      rank_inj B (price P c t h w) h w (price P c t h' w') h' w'
      (s.count h w d) (s.width h w d) (s.count h' w' d') (s.width h' w' d') e in
      (r.1, r.2)

  pub least_bases : (B' : Bases) → Spans A B t → Spans A B' t → Least A P B c t h w → Least A P B' c t h w
  least_bases B' s s' l =
      let d = l.candidate in
      record {
        candidate = d;
        least = λ i v e.
            rank_le B' (price P c t h w) h w (price P c t i v) i v (s'.count h w d) (s'.width h w d)
            (ranked B (price P c t h w) h w (price P c t i v) i v (s.count i v e) (s.width i v e) (l.least i v e));
      }

-- A run of at most one sibling has no pair but the plain one.
pub least_one : (A : Allowed) (P : Prices) (B : Bases) (c : Forest → ℕ) (t : Forest) → siblings t ≤ 1 → Least A P B c t 0 0
least_one A P B c t l = record { candidate = plain; least = only }
  where
    only : (h w : ℕ) → Candidate A t h w → rank B (price P c t 0 0) 0 0 ≤ rank B (price P c t h w) h w
    only h w plain = omega arith
    only h w (power p) = absurd (let r = reach p in omega (arith, p.repeats.twice))

-- A fold whose digits are at most those of k, the best fold that begins like g, is no worse than g.
ranked_no_worse : {A : Allowed} {P : Prices} {t : Forest} (f k g : Forest) → FoldOf A t f → FoldOf A t g → NoWorse P k g
    → (count_of f ≡ count_of g → width_of f ≡ width_of g → f ≡ k)
    → Ranked (cost P f) (count_of f) (width_of f) (cost P k) (count_of g) (width_of g) → NoWorse P f g
ranked_no_worse f k g p q m e (lower i) = cheaper (omega (arith, no_dearer m))
ranked_no_worse {P = P} f k g p q m e (sooner i s) = elim (dec_lt (cost P f) (cost P g)) [
  | yes j ↦ cheaper j
  | no j ↦ earlier (omega (arith, no_dearer m)) (sooner_before f g p q s)
]
ranked_no_worse f k g p q m e (equal i a b) = rw (e a b) m

-- A solver that is right for every run of fewer than n nodes, at a run of at most n.
module _ (A : Allowed) (P : Prices) (go : Forest → Forest) (n : ℕ)
    (solves : (x : Forest) → Run A x → nodes x < n → Optimal A P x (go x)) where
  -- What a pair builds is a fold.
  build_plain : (t : Forest) → Run A t → nodes t ≤ n → FoldOf A t (build go t 0 0)
  unfolding build unroll nodes
  build_plain end r l = record { sound = tt; unrolls = refl }
  build_plain (step m f) r l =
      let o = (solves f (run_rest r) (omega arith)).fold in
      record { sound = o.sound; unrolls = rw o.unrolls }
  build_plain (group m b f) r l =
      let o = (solves b (run_body r) (omega arith)).fold in
      let q = (solves f (run_after r) (omega arith)).fold in
      let some = r.sound.0 in
      record {
        sound = (omega (arith, siblings_unroll (go b), ap siblings o.unrolls), o.sound, q.sound);
        unrolls = rw (o.unrolls, q.unrolls);
      }
  build_plain (repeat h w b f) r l = absurd r.plain

  build_power : (t : Forest) (h w : ℕ) → Run A t → nodes t ≤ n → Power A t h w → FoldOf A t (build go t h w)
  unfolding build
  build_power t zero w r l p = absurd (omega (arith, p.repeats.twice))
  build_power t (suc h) w r l p = whole r (record {
    first = p;
    body = (solves (front w t) (run_front w r) (omega (arith, power_body_less r p))).fold;
    rest = (solves (back (suc h * w) t) (run_back (suc h * w) r) (omega (arith, power_rest_less r p))).fold;
  })

  pub build_fold : (t : Forest) (h w : ℕ) → Run A t → nodes t ≤ n → Candidate A t h w → FoldOf A t (build go t h w)
  build_fold t h w r l plain = build_plain t r l
  build_fold t h w r l (power p) = build_power t h w r l p

  -- It is no worse than any fold that begins with that pair.
  own_best : (f : Forest) → Sound A f → Run A (unroll f) → nodes (unroll f) < n → NoWorse P (go (unroll f)) f
  own_best f s r l = (solves (unroll f) r l).best f (record { sound = s; unrolls = refl })

  repeat_best : (t : Forest) (h w : ℕ) (b f : Forest) → Run A t → nodes t ≤ n → Parts A t h w b f
      → NoWorse P (build go t h w) (repeat h w b f)
  unfolding build
  repeat_best t zero w b f r l p = absurd (omega (arith, p.first.repeats.twice))
  repeat_best t (suc h) w b f r l p =
      repeat_no_worse P (suc h) w (go (front w t)) b (go (back (suc h * w) t)) f
      ((solves (front w t) (run_front w r) (omega (arith, power_body_less r p.first))).best b p.body)
      ((solves (back (suc h * w) t) (run_back (suc h * w) r) (omega (arith, power_rest_less r p.first))).best f p.rest)

  build_own : (g : Forest) → Sound A g → Run A (unroll g) → nodes (unroll g) ≤ n
      → NoWorse P (build go (unroll g) (count_of g) (width_of g)) g
  unfolding build count_of width_of unroll nodes
  build_own end s r l = same refl
  build_own (step m f) s r l = step_no_worse P m (go (unroll f)) f (own_best f s (run_rest r) (omega arith))
  build_own (group m b f) s r l =
      group_no_worse P m (go (unroll b)) b (go (unroll f)) f
      (own_best b s.1 (run_body r) (omega arith)) (own_best f s.2 (run_after r) (omega arith))
  build_own (repeat h w b f) s r l =
      repeat_best (unroll (repeat h w b f)) h w b f r l (parts (record { sound = s; unrolls = refl }))

  build_best : (t g : Forest) → Run A t → nodes t ≤ n → FoldOf A t g → NoWorse P (build go t (count_of g) (width_of g)) g
  build_best t g r l q = rw q.unrolls at (build_own g q.sound (rw q.unrolls r) (rw q.unrolls l))

  -- So the pair of least rank builds the optimal fold.
  pub least_optimal : (B : Bases) (t : Forest) (h w : ℕ) → Run A t → nodes t ≤ n → Spans A B t
      → Least A P B (λ x. cost P (go x)) t h w → Optimal A P t (build go t h w)
  least_optimal B t h w r l s le =
      let c : Forest → ℕ = λ x. cost P (go x) in
      let f = build_fold t h w r l le.candidate in
      let a = count_build go t h w in
      let b = width_build go t h w le.candidate in
      record {
        fold = f;
        best = λ g q.
            let i = count_of g in
            let v = width_of g in
            let d = candidate_of g q in
            let k = ranked B (price P c t h w) h w (price P c t i v) i v (s.count i v d) (s.width i v d) (le.least i v d) in
            ranked_no_worse (build go t h w) (build go t i v) g f q (build_best t g r l q) (λ e e'. cc)
            (rw (cost_build P go t h w, cost_build P go t i v, a, b) k);
      }
