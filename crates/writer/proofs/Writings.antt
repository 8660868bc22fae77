-- A cheapest fold by writes behind each other.
use mathlib.Core.Path.{◌≡◌, refl, sym, ap, ◌∙◌}
use mathlib.Core.List.{List, [], ◌∷◌, ◌++◌}
use Prim.Native.Nat.{ℕ, ◌+◌, ◌-◌, ◌*◌, ◌<◌, ◌≤◌, min}
use native.Mathlib.Omega.{arith}
use lib.ListN.{length, length-append, get_or, set, take, drop}
use lib.Seq.{sets}
use borrow.Rule.Slice.PartMut.{put_mid}
use Rattle.put.specs.Bounds.{most_bytes}
use Rattle.put.proofs.Along.{lent_back, Along, along_none, along_end, along_more, along_byte, all_written}
use Rattle.format.specs.Forest.{opening, opening_size}
use Rattle.format.proofs.Forests.{opening_append}
use Rattle.format.proofs.Bridge.{opening_length}
use Rattle.table.specs.Keys.{pair_digits, count_digit, width_digit, covered}
use Rattle.table.specs.Table.{cell}
use Rattle.writer.specs.declared.Source.{Source}
use Rattle.writer.specs.Writing.{WriteReady, NodeReady, SpanFits, NodeFits, FoldWritten, SpanWritten, NodeWritten, fold_bytes, node_bytes, Follows, follow}
use Rattle.writer.proofs.Spans.{command, label, next_of, Plainly, Repeated, fold_small, fold_none, node_plain, node_body, node_power, node_start, node_two, node_step, node_group}

-- What is left of a sequence begins at the number q, and its fold is to be written from the place p on.
pub record Left {source : Source} {first behind : ℕ} (z : WriteReady source first behind) (to : ℕ) (before : List ℕ) (q p : ℕ) (now : List ℕ) : Type 0 where
  pub rest : WriteReady source q behind
  pub along : Along (fold_bytes z) (fold_bytes rest) to before p now

pub record Putting (source : Source) (first behind to : ℕ) (before : List ℕ) (q p : ℕ) (now : List ℕ) : Type 0 where
  pub ahead : q ≤ first
  pub left : (z : WriteReady source first behind) → Left z to before q p now

module _ {source : Source} {first behind to : ℕ} (before : List ℕ) (m : SpanFits source first behind to) where
  pub putting_none : Putting source first behind to before first to before
  putting_none =
      record { ahead = omega arith; left = λ z. record { rest = z; along = along_none (fold_bytes z) to before } }

  module _ {q p : ℕ} {now : List ℕ} (x : Putting source first behind to before q p now) where
    pub putting_all : q ≤ behind → SpanWritten source first behind to before now p
    putting_all h = all_written (λ z. let l = x.left z in rw (fold_none l.rest h) at l.along)

-- The node of number q is next, and c is the table's pair.
pub record Turn (source : Source) (first behind to : ℕ) (before : List ℕ) (q p : ℕ) (now : List ℕ) (c : ℕ) : Type 0 where
  pub fits : SpanFits source first behind to
  pub putting : Putting source first behind to before q p now
  pub more : behind < q
  pub looked : c ≡ pair_digits (get_or source.choices.now (cell behind q) 0)

module _ {source : Source} {first behind to : ℕ} {before : List ℕ} {q p : ℕ} {now : List ℕ} {c : ℕ}
    (x : Turn source first behind to before q p now c) where
  abbrev pub next : WriteReady source q behind → NodeReady source q
  next z = record { behind = behind; ready = z; some = x.more }

  abbrev pub ready : WriteReady source q behind
  ready = (x.putting.left x.fits.ready).rest

  ready_fits : p + length (fold_bytes ready) ≤ most_bytes
  ready_fits = omega (arith, along_end (x.putting.left x.fits.ready).along, x.fits.fits)

  -- The plain node.
  module _ (f : c ≡ 0) where
    split : (z : WriteReady source q behind) → Plainly (next z)
    split z = node_plain (next z) c x.looked f

    pub plainly : Plainly (next ready)
    plainly = split ready

    pub plain_fits : NodeFits source q p
    plain_fits =
        let y = plainly in
        record {
          ready = next ready;
          fits = omega (arith, ready_fits, ap length y.spelled, length-append (node_bytes (next ready)) (fold_bytes y.rest));
        }

    pub putting_plain : (r : ℕ) (now' : List ℕ) → NodeWritten source q p now now' r
        → Putting source first behind to before (next_of source q) r now'
    putting_plain r now' l =
        record {
          ahead = omega (arith, x.putting.ahead, plainly.falls);
          left = λ z.
              let k = x.putting.left z in
              let y = split k.rest in
              let n = next k.rest in
              record { rest = y.rest; along = along_more k.along (node_bytes n) (fold_bytes y.rest) r now' y.spelled (l.is_end n) (l.written n) };
        }

  -- A repeat: as far as its body has siblings, they are followed.
  pub power_body : (c ≡ 0 → ⊥) → (w : ℕ) → w ≡ width_digit c → Follows source.nodes.now.nexts q w
  power_body f w e = node_body (next ready) c x.looked f w e

-- A repeat is next, by its count and width, and its body ends at the number `stop`.
pub record Power (source : Source) (first behind to : ℕ) (before : List ℕ) (q p : ℕ) (now : List ℕ) (c h w stop : ℕ) : Type 0 where
  pub turn : Turn source first behind to before q p now c
  pub other : c ≡ 0 → ⊥
  pub count : h ≡ count_digit c
  pub width : w ≡ width_digit c
  pub ended : stop ≡ follow source.nodes.now.nexts q w

-- Its open, what it holds, its close.
module _ {source : Source} {first behind to : ℕ} {before : List ℕ} {q p : ℕ} {now : List ℕ} {c h w stop : ℕ}
    (x : Power source first behind to before q p now c h w stop) where
  repeated : (z : WriteReady source q behind) → Repeated (next x.turn z) h w stop
  repeated z = node_power (next x.turn z) c x.turn.looked x.other h w stop x.count x.width x.ended

  pub power_next : Repeated (next x.turn (ready x.turn)) h w stop
  power_next = repeated (ready x.turn)

  -- What it covers.
  whole : (k : ℕ) → k ≡ covered c → k ≡ h * w
  whole k e = e ∙ rw (x.count, x.width)

  module _ (k : ℕ) (e : k ≡ covered c) where
    pub power_wide : w ≤ k
    power_wide = rw (whole k e) power_next.wide

    pub power_rest : Follows source.nodes.now.nexts stop (k - w)
    power_rest = rw (whole k e) power_next.to_rest

    pub power_falls : (q' : ℕ) → q' ≡ follow source.nodes.now.nexts stop (k - w) → q' < q
    power_falls q' f = rw (f, whole k e) power_next.falls

  pub open_fits : p + opening_size source.short h w ≤ most_bytes
  open_fits =
      let y = power_next in
      omega (arith, ready_fits x.turn, ap length y.spelled, opening_length source.short h w (fold_bytes y.body ++ 0x21 ∷ fold_bytes y.rest))

  pub body_fits : (p₁ : ℕ) → p₁ ≡ p + opening_size source.short h w → SpanFits source q stop p₁
  body_fits p₁ e =
      let y = power_next in
      record {
        ready = y.body;
        fits = omega (arith, ready_fits x.turn, ap length y.spelled, opening_length source.short h w (fold_bytes y.body ++ 0x21 ∷ fold_bytes y.rest), length-append (fold_bytes y.body) (0x21 ∷ fold_bytes y.rest));
      }

  module _ (p₁ : ℕ) (behind_open : p₁ ≡ p + opening_size source.short h w) (now₁ : List ℕ) (r : ℕ) (now₂ : List ℕ)
      (l : SpanWritten source q stop p₁ now₁ now₂ r) where
    pub power_close : r < most_bytes
    power_close =
        let y = power_next in
        omega (
          arith,
          l.is_end y.body,
          ready_fits x.turn,
          ap length y.spelled,
          opening_length source.short h w (fold_bytes y.body ++ 0x21 ∷ fold_bytes y.rest),
          length-append (fold_bytes y.body) (0x21 ∷ fold_bytes y.rest),
        )

    pub putting_power : now₁ ≡ sets now p (opening source.short h w []) → (now₃ : List ℕ) → now₃ ≡ set now₂ r 0x21
        → (k q' : ℕ) → k ≡ covered c → q' ≡ follow source.nodes.now.nexts stop (k - w)
        → Putting source first behind to before q' (r + 1) now₃
    putting_power opens now₃ closes k q' e f =
        rw (f, whole k e) (record { ahead = omega (arith, x.turn.putting.ahead, power_next.falls); left = left })
      where
        left : (z : WriteReady source first behind) → Left z to before (follow source.nodes.now.nexts stop (h * w - w)) (r + 1) now₃
        left z =
            let t = x.turn.putting.left z in
            let y = repeated t.rest in
            let body = fold_bytes y.body in
            let rest = fold_bytes y.rest in
            let opened = along_more t.along (opening source.short h w []) (body ++ 0x21 ∷ rest) p₁ now₁ (y.spelled ∙ sym (opening_append source.short h w [] (body ++ 0x21 ∷ rest))) (omega (arith, opening_length source.short h w [])) opens in
            let held = along_more opened body (0x21 ∷ rest) r now₂ refl (l.is_end y.body) (l.written y.body) in
            record { rest = y.rest; along = along_byte held 0x21 rest now₃ refl closes }

-- A sequence from its first place on.
pub fold_fits : {source : Source} {first behind : ℕ} → WriteReady source first behind
    → SpanFits source first behind 0
fold_fits z = record { ready = z; fits = omega (arith, fold_small z) }

-- Where a node stands: in the lists, in the run, and in the output.
pub record NodeBounds (source : Source) (q to : ℕ) : Type 0 where
  pub most : q ≤ 1024
  pub start : get_or source.nodes.now.places q 0 + 2 ≤ length source.run.now
  pub place : to + 2 ≤ most_bytes

-- All of a group is written but its close, at whose place the writer is.
pub record Unclosed (source : Source) (q to : ℕ) (before : List ℕ) (at : ℕ) (now : List ℕ) : Type 0 where
  pub along : (n : NodeReady source q) → Along (node_bytes n) (0x12 ∷ []) to before at now
  pub fits : at < most_bytes

-- A node alone: its two first bytes, and for a group what it holds and the close.
module _ {source : Source} {q to : ℕ} (m : NodeFits source q to) where
  pub node_bounds : NodeBounds source q to
  node_bounds =
      record {
        most = m.ready.ready.total;
        start = node_start m.ready;
        place = omega (arith, m.fits, node_two m.ready);
      }

  -- Its two first bytes are written.
  module _ {before now₁ now : List ℕ} (first : now₁ ≡ set before to (command source q))
      (second : now ≡ set now₁ (to + 1) (label source q)) where
    head_written : (whole rest : List ℕ) → whole ≡ command source q ∷ label source q ∷ rest
        → Along whole rest to before (to + 2) now
    head_written whole rest e =
        let a = command source q in
        let b = label source q in
        let two : to + 1 + 1 ≡ to + 2 = omega arith in
        rw two at (along_byte (along_byte (along_none whole to before) a (b ∷ rest) now₁ e first) b rest now refl second)

    pub step_written : command source q ≡ 0x10 → NodeWritten source q to before now (to + 2)
    step_written h = all_written (λ n. head_written (node_bytes n) [] (node_step n h))

    -- And what a group holds, the rest of the output being lent from where that begins or from its own end.
    pub inside_written : (command source q ≡ 0x10 → ⊥) → {lent : ℕ} → lent ≡ min (to + 2) (length now) → {n : ℕ} {after : List ℕ}
        → FoldWritten source (q - 1) (next_of source q) (take (length now - lent) (drop lent now)) after n
        → Unclosed source q to before (to + 2 + n) (put_mid lent (length now - lent) now after)
    inside_written h {lent} low {n} {after} w = record { along = along; fits = omega (arith, along_end (along m.ready), m.fits) }
      where
        along : (x : NodeReady source q)
            → Along (node_bytes x) (0x12 ∷ []) to before (to + 2 + n) (put_mid lent (length now - lent) now after)
        along x =
            let g = node_group x h in
            let y = fold_bytes g.inside in
            along_more (head_written (node_bytes x) (y ++ 0x12 ∷ []) g.spelled) y (0x12 ∷ []) (to + 2 + n) (put_mid lent (length now - lent) now after)
            refl (omega (arith, w.is_length g.inside)) (lent_back y now after (to + 2) lent (λ m. omega arith) (λ m. omega arith) (w.written g.inside))

pub closed : {source : Source} {q to : ℕ} {before : List ℕ} {at : ℕ} {now : List ℕ}
    → Unclosed source q to before at now → {now' : List ℕ} → now' ≡ set now at 0x12
    → NodeWritten source q to before now' (at + 1)
closed u {now'} e = all_written (λ n. along_byte (u.along n) 0x12 [] now' refl e)
