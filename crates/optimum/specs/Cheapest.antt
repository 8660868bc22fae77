-- The cheapest fold as a function that computes: the first item is the plain node or a repeat, by the least rank, and its
-- parts and the rest are cheapest folds again.
use Rattle.std.specs.Prelude.{◌≡◌, Bool, false, ℕ, zero, suc, ◌+◌, ◌*◌, ◌/◌, ◌≤◌, ◌<◌}
use Rattle.std.proofs.Math.Bool.{Bool-discrete}
use Rattle.std.proofs.Math.Decide.{ℕ_discrete, dec_le, dec_lt}
use Rattle.format.specs.Limits.{Prices, of_repeat}
use Rattle.format.specs.Forest.{Forest, end, step, group, repeat, copies, siblings, nodes, cost, holds, Plain, Allowed, Repeats, Sound, Forest-discrete}

-- A run: no repeat, no empty group.
pub record Run (A : Allowed) (t : Forest) : Type 0 where
  pub plain : Plain t
  pub sound : Sound A t

-- The first n items of a sequence, and what follows them. The items of a run are its siblings.
unfoldable pub front : ℕ → Forest → Forest
front zero t = end
front (suc n) end = end
front (suc n) (step l f) = step l (front n f)
front (suc n) (group l b f) = group l b (front n f)
front (suc n) (repeat h w b f) = repeat h w b (front n f)

unfoldable pub back : ℕ → Forest → Forest
back zero t = t
back (suc n) end = end
back (suc n) (step l f) = back n f
back (suc n) (group l b f) = back n f
back (suc n) (repeat h w b f) = back n f

-- The sibling of number i, from 0, as a sequence of one.
abbrev pub node : ℕ → Forest → Forest
node i t = front 1 (back i t)

-- Two sequences are equal and hold no marked label, so that a repeat may write one as a copy of the other.
pub record FreeCopy (marked : ℕ → Bool) (x y : Forest) : Type 0 where
  pub same : x ≡ y
  pub unmarked : holds marked x ≡ false

-- A repeat of count h and width w may stand first: the first h × w siblings are h copies of the first w.
pub record Power (A : Allowed) (t : Forest) (h w : ℕ) : Type 0 where
  pub repeats : Repeats A h w (front w t)
  pub copied : front (h * w) t ≡ copies h (front w t)

-- What may stand first, as a pair: the plain node, or a repeat by its count and width.
pub data Candidate (A : Allowed) (t : Forest) : ℕ → ℕ → Type 0 where
  plain : Candidate A t 0 0
  power : {h w : ℕ} → Power A t h w → Candidate A t h w

-- The fold whose first item is given by a pair, the solver asked for its parts and for the rest.
unfoldable pub build : (Forest → Forest) → Forest → ℕ → ℕ → Forest
unfolding front back
build go end zero w = end
build go (step l f) zero w = step l (go f)
build go (group l b f) zero w = group l (go b) (go f)
build go (repeat h v b f) zero w = end
build go t (suc h) w = repeat (suc h) w (go (front w t)) (go (back (suc h * w) t))

-- Its cost, the costs of the parts and of the rest given.
unfoldable pub price : Prices → (Forest → ℕ) → Forest → ℕ → ℕ → ℕ
unfolding front back
price P c end zero w = 0
price P c (step l f) zero w = P.of_step l + c f
price P c (group l b f) zero w = P.of_group l + c b + c f
price P c (repeat h v b f) zero w = 0
price P c t (suc h) w = of_repeat P (suc h) + c (front w t) + c (back (suc h * w) t)

-- Cost, count and width as the digits of one number, the last two below these bases.
pub record Bases : Type 0 where
  pub counts : ℕ
  pub widths : ℕ

unfoldable pub rank : Bases → ℕ → ℕ → ℕ → ℕ
rank B c h w = (c * B.counts + h) * B.widths + w

-- The bases that serve up to 1,024 siblings.
abbrev pub usual : Bases
usual = record { counts = 2048; widths = 1024 }

-- Those that serve one run.
abbrev pub own : Forest → Bases
own t = record { counts = suc (siblings t); widths = suc (siblings t) }

-- The bases are large enough for everything that may stand first.
pub record Spans (A : Allowed) (B : Bases) (t : Forest) : Type 0 where
  pub count : (h w : ℕ) → Candidate A t h w → h < B.counts
  pub width : (h w : ℕ) → Candidate A t h w → w < B.widths

-- The pair of least rank, the costs c of the parts given.
pub record Least (A : Allowed) (P : Prices) (B : Bases) (c : Forest → ℕ) (t : Forest) (h w : ℕ) : Type 0 where
  pub candidate : Candidate A t h w
  pub least : (h' w' : ℕ) → Candidate A t h' w' → rank B (price P c t h w) h w ≤ rank B (price P c t h' w') h' w'

-- A fold with the pair of its first item; what a pair offers, what it scores, and the lesser of two.
pub record Choice : Type 0 where
  pub count : ℕ
  pub width : ℕ
  pub fold : Forest

unfoldable pub offer : (Forest → Forest) → Forest → ℕ → ℕ → Choice
unfolding build
offer go t h w = record { count = h; width = w; fold = build go t h w }

unfoldable pub score : Prices → Bases → Choice → ℕ
unfolding rank cost
score P B x = rank B (cost P x.fold) x.count x.width

unfoldable pub keep : {X : Type 0} → Dec X → Choice → Choice → Choice
keep (yes d) x y = y
keep (no d) x y = x

unfoldable pub lesser : Prices → Bases → Choice → Choice → Choice
unfolding score keep dec_lt
lesser P B x y = keep (dec_lt (score P B y) (score P B x)) x y

-- Whether a body may be repeated, and whether a repeat may stand first.
unfoldable pub repeats_by : {A : Allowed} {h w : ℕ} {b : Forest} → Dec (2 ≤ h) → Dec (siblings b ≡ w) → Dec (w ≤ A.widest)
    → Dec (0 < siblings b) → Dec (holds A.marked b ≡ false) → Dec (Repeats A h w b)
repeats_by (yes p) (yes q) (yes r) (yes s) (yes u) = yes (record { twice = p; true_width = q; within = r; some = s; unmarked = u })
repeats_by (yes p) (yes q) (yes r) (yes s) (no n) = no (λ x. n x.unmarked)
repeats_by (yes p) (yes q) (yes r) (no n) d = no (λ x. n x.some)
repeats_by (yes p) (yes q) (no n) d e = no (λ x. n x.within)
repeats_by (yes p) (no n) d e f = no (λ x. n x.true_width)
repeats_by (no n) d e f g = no (λ x. n x.twice)

unfoldable pub power_by : {A : Allowed} {t : Forest} {h w : ℕ} → Dec (Repeats A h w (front w t))
    → Dec (front (h * w) t ≡ copies h (front w t)) → Dec (Power A t h w)
power_by (yes p) (yes q) = yes (record { repeats = p; copied = q })
power_by (yes p) (no n) = no (λ x. n x.copied)
power_by (no n) d = no (λ x. n x.repeats)

unfoldable pub power_dec : (A : Allowed) (t : Forest) (h w : ℕ) → Dec (Power A t h w)
unfolding repeats_by power_by dec_le dec_lt ℕ_discrete siblings holds front copies
power_dec A t h w =
    let n = siblings (front w t) in
    power_by (repeats_by (dec_le 2 h) (ℕ_discrete n w) (dec_le w A.widest) (dec_lt 0 n) (Bool-discrete (holds A.marked (front w t)) false))
    (Forest-discrete ℕ_discrete (front (h * w) t) (copies h (front w t)))

-- The better of a choice and the repeat (h, w), if that may stand first.
unfoldable pub weigh : {A : Allowed} {t : Forest} {h w : ℕ} → Prices → Bases → (Forest → Forest) → Dec (Power A t h w) → Choice → Choice
unfolding lesser offer
weigh {t = t} {h = h} {w = w} P B go (yes p) x = lesser P B x (offer go t h w)
weigh P B go (no n) x = x

-- A step of choosing, done for n, .., 2, 1.
unfoldable pub sweep : (ℕ → Choice → Choice) → ℕ → Choice → Choice
sweep f zero x = x
sweep f (suc n) x = sweep f n (f (suc n) x)

-- All counts at one width, and all widths: the fold of least rank among those that the solver's folds of the parts give.
unfoldable pub choose_count : Allowed → Prices → (Forest → Forest) → Forest → ℕ → Choice → Choice
unfolding weigh power_dec sweep siblings
choose_count A P go t w = sweep (λ h. weigh P (own t) go (power_dec A t h w)) (siblings t / w)

unfoldable pub choose : Allowed → Prices → (Forest → Forest) → Forest → Choice
unfolding choose_count sweep siblings
choose A P go t = sweep (choose_count A P go t) (siblings t) (offer go t 0 0)

-- The cheapest fold: choosing with itself as the solver. One step for each node and one for the end are enough.
unfoldable pub cheapest_by : Allowed → Prices → ℕ → Forest → Forest
unfolding choose
cheapest_by A P zero t = end
cheapest_by A P (suc n) t = (choose A P (λ x. cheapest_by A P n x) t).fold

unfoldable pub cheapest : Allowed → Prices → Forest → Forest
unfolding cheapest_by nodes
cheapest A P t = cheapest_by A P (suc (nodes t)) t

unfoldable pub best_cost : Allowed → Prices → Forest → ℕ
unfolding cheapest cost
best_cost A P t = cost P (cheapest A P t)
