-- Expansion in the report's trees always ends, and always in the same one: a forest represents exactly one ordinary forest.
use mathlib.Core.Path.{◌≡◌, refl, sym, ap, ap₂, ◌∙◌}
use mathlib.Core.Logic.{◌↔◌}
use Prim.Native.Nat.{ℕ, zero, suc, ◌+◌, ◌*◌, ◌≤◌, ◌<◌}
use native.Mathlib.Nat.{mul-le-mul_left}
use native.Mathlib.Omega.{arith}
use Rattle.format.specs.Report.{RRT, empty, letter, repetition, count, Ordinary, append, series, Expands, this, under_letter, under_repetition, after_letter, after_repetition, Leads, done, more, Represents, Width, size}

-- All repetitions expanded.
unfoldable pub expand : {Σ : Type 0} → RRT Σ → RRT Σ
expand empty = empty
expand (letter a c r) = letter a (expand c) (expand r)
expand (repetition h c r) = append (series h (expand c)) (expand r)

-- A number that every expansion lowers, also where h is 0 or 1.
unfoldable pub work : {Σ : Type 0} → RRT Σ → ℕ
work empty = 0
work (letter a c r) = work c + work r
work (repetition h c r) = 1 + work c + h * work c + work r

module _ {Σ : Type 0} where
  append_assoc : (r s t : RRT Σ) → append (append r s) t ≡ append r (append s t)
  unfolding append
  append_assoc empty s t = refl
  append_assoc (letter a c r) s t = ap (letter a c) (append_assoc r s t)
  append_assoc (repetition h c r) s t = ap (repetition h c) (append_assoc r s t)

  expand_append : (r s : RRT Σ) → expand (append r s) ≡ append (expand r) (expand s)
  unfolding append expand
  expand_append empty s = refl
  expand_append (letter a c r) s = ap (letter a (expand c)) (expand_append r s)
  expand_append (repetition h c r) s = rw (expand_append r s, append_assoc)

  expand_series : (h : ℕ) (c : RRT Σ) → expand (series h c) ≡ series h (expand c)
  unfolding series expand
  expand_series zero c = refl
  expand_series (suc h) c = rw (expand_append, expand_series h c)

  -- No expansion changes where all of them lead.
  pub expand_step : {r s : RRT Σ} → Expands r s → expand r ≡ expand s
  unfolding expand
  expand_step (this {h = h} {c = c} {r = r}) = rw (expand_append (series h c) r, expand_series h c)
  expand_step (under_letter e) = rw (expand_step e)
  expand_step (under_repetition e) = rw (expand_step e)
  expand_step (after_letter e) = rw (expand_step e)
  expand_step (after_repetition e) = rw (expand_step e)

  pub expand_leads : {r s : RRT Σ} → Leads r s → expand r ≡ expand s
  expand_leads done = refl
  expand_leads (more e l) = expand_step e ∙ expand_leads l

  pub expand_ordinary : (t : RRT Σ) → Ordinary t → expand t ≡ t
  unfolding expand
  expand_ordinary empty o = refl
  expand_ordinary (letter a c r) o = ap₂ (letter a) (expand_ordinary c o.0) (expand_ordinary r o.1)
  expand_ordinary (repetition h c r) o = absurd o

  -- The full expansion has no repetition.
  ordinary_append : (r s : RRT Σ) → Ordinary r → Ordinary s → Ordinary (append r s)
  unfolding append
  ordinary_append empty s o p = p
  ordinary_append (letter a c r) s o p = (o.0, ordinary_append r s o.1 p)
  ordinary_append (repetition h c r) s o p = o

  ordinary_series : (h : ℕ) (c : RRT Σ) → Ordinary c → Ordinary (series h c)
  unfolding series
  ordinary_series zero c o = tt
  ordinary_series (suc h) c o = ordinary_append c (series h c) o (ordinary_series h c o)

  pub ordinary_expand : (r : RRT Σ) → Ordinary (expand r)
  unfolding expand
  ordinary_expand empty = tt
  ordinary_expand (letter a c r) = (ordinary_expand c, ordinary_expand r)
  ordinary_expand (repetition h c r) =
      ordinary_append (series h (expand c)) (expand r) (ordinary_series h (expand c) (ordinary_expand c)) (ordinary_expand r)

  -- Expansions one by one lead to it: those below a node, those after it, then the node itself.
  then : {r s t : RRT Σ} → Leads r s → Leads s t → Leads r t
  then done m = m
  then (more e l) m = more e (then l m)

  inside : {r s : RRT Σ} (F : RRT Σ → RRT Σ) → ((r s : RRT Σ) → Expands r s → Expands (F r) (F s)) → Leads r s → Leads (F r) (F s)
  inside F one done = done
  inside F one (more e l) = more (one _ _ e) (inside F one l)

  pub leads_expand : (r : RRT Σ) → Leads r (expand r)
  unfolding expand
  leads_expand empty = done
  leads_expand (letter a c r) =
      then
      (inside (λ d. letter a d r) (λ d e x. under_letter x) (leads_expand c))
      (inside (letter a (expand c)) (λ s t x. after_letter x) (leads_expand r))
  leads_expand (repetition h c r) =
      then
      (inside (λ d. repetition h d r) (λ d e x. under_repetition x) (leads_expand c))
      (then (inside (repetition h (expand c)) (λ s t x. after_repetition x) (leads_expand r)) (more this done))

  -- What a forest represents is its full expansion, and nothing else.
  pub represents_expand : (r : RRT Σ) → Represents r (expand r)
  represents_expand r = record { expansions = leads_expand r; ordinary = ordinary_expand r }

  pub represents : (r t : RRT Σ) → Represents r t ↔ t ≡ expand r
  represents r t =
      (λ p. sym (expand_leads p.expansions ∙ expand_ordinary t p.ordinary), λ e. rw e (represents_expand r))

  -- So a width is one number.
  pub width : (c : RRT Σ) (w : ℕ) → Width c w ↔ count (expand c) ≡ w
  width c w = (
    λ p. rw (← (represents c p.expanded).0 p.represented) p.counted,
    λ e. record { expanded = expand c; represented = represents_expand c; counted = e },
  )

  -- Two sequences from one forest can be brought together again.
  pub confluence : {r s t : RRT Σ} → Leads r s → Leads r t → (u : RRT Σ) × Leads s u × Leads t u
  confluence {r} {s} {t} l m = (expand r, rw (expand_leads l) (leads_expand s), rw (expand_leads m) (leads_expand t))

  -- Each expansion lowers the work, so there is no endless sequence of them.
  work_append : (r s : RRT Σ) → work (append r s) ≡ work r + work s
  unfolding append work
  work_append empty s = omega arith
  work_append (letter a c r) s = omega (arith, work_append r s)
  work_append (repetition h c r) s = omega (arith, work_append r s)

  work_series : (h : ℕ) (c : RRT Σ) → work (series h c) ≡ h * work c
  unfolding series work
  work_series zero c = omega arith
  work_series (suc h) c = omega (arith, work_append c (series h c), work_series h c)

  pub falls : {r s : RRT Σ} → Expands r s → work s < work r
  unfolding work
  falls (this {h = h} {c = c} {r = r}) = omega (arith, work_append (series h c) r, work_series h c)
  falls (under_letter e) = omega (arith, falls e)
  falls (under_repetition {h = h} {c = c} {d = d} e) =
      let less : work d < work c = falls e in
      let most : work d ≤ work c = omega arith in
      omega (arith, mul-le-mul_left h most)
  falls (after_letter e) = omega (arith, falls e)
  falls (after_repetition e) = omega (arith, falls e)

  after : (f : ℕ → RRT Σ) → ((n : ℕ) → Expands (f n) (f (suc n))) → (n : ℕ) → n + work (f n) ≤ work (f 0)
  after f e zero = omega arith
  after f e (suc n) = omega (arith, after f e n, falls (e n))

  pub termination : (f : ℕ → RRT Σ) → ((n : ℕ) → Expands (f n) (f (suc n))) → ⊥
  termination f e = omega (arith, after f e (suc (work (f 0))))

  -- Every sequence that cannot go on has led to the full expansion.
  ordinary_final : (t : RRT Σ) → ((s : RRT Σ) → Expands t s → ⊥) → Ordinary t
  ordinary_final empty last = tt
  ordinary_final (letter a c r) last = (
    ordinary_final c (λ d e. last (letter a d r) (under_letter e)),
    ordinary_final r (λ s e. last (letter a c s) (after_letter e)),
  )
  ordinary_final (repetition h c r) last = last (append (series h c) r) this

  pub maximal : {r t : RRT Σ} → Leads r t → ((s : RRT Σ) → Expands t s → ⊥) → t ≡ expand r
  maximal {r} {t} l last = (represents r t).0 (record { expansions = l; ordinary = ordinary_final t last })

-- Examples 1 and 2 of the report, with every weight 1: abaababaab of length 10, and (ab(a)²b)² and (aba)²b(a)²b, which
-- represent it, of lengths 6 and 8.
abbrev a : RRT ℕ → RRT ℕ
a r = letter 0 empty r

abbrev b : RRT ℕ → RRT ℕ
b r = letter 1 empty r

abbrev plain : RRT ℕ
plain = a (b (a (a (b (a (b (a (a (b empty)))))))))

abbrev nested : RRT ℕ
nested = repetition 2 (a (b (repetition 2 (a empty) (b empty)))) empty

abbrev beside : RRT ℕ
beside = repetition 2 (a (b (a empty))) (b (repetition 2 (a empty) (b empty)))

abbrev unit_size : RRT ℕ → ℕ
unit_size r = size (λ l. 1) (λ h. 1) r

pub examples : Represents nested plain × Represents beside plain × (unit_size plain ≡ 10) × (unit_size nested ≡ 6) × (unit_size beside ≡ 8)
unfolding expand append series size
examples = (represents_expand nested, represents_expand beside, refl, refl, refl)
