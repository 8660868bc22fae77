-- The nodes that unrolling writes: how many there are, that without their offsets they are the nodes of the unrolled run, and
-- that at each offset the fold has that command with that label.
use mathlib.Core.Path.{◌≡◌, refl, sym, ap, ◌∙◌}
use mathlib.Core.Bool.{true}
use mathlib.Core.List.{List, [], ◌∷◌, ◌++◌, map, append_assoc, append-nil, map-append}
use mathlib.Core.Option.{some, none-ne-some, some-injective}
use Prim.Native.Nat.{ℕ, zero, suc, ◌+◌, ◌*◌, ◌/◌, ◌%◌}
use native.Mathlib.Nat.{zero-add, suc-add}
use native.Mathlib.Omega.{arith}
use lib.ListN.{length, length-append, drop, get_elem?}
use lib.Seq.{drop-drop, drop-append_seam}
use Rattle.format.specs.Forest.{Forest, end, step, group, repeat, join, copies, unroll, nodes, form_in, bytes, Plain}
use Rattle.format.specs.Machine.{times, is_node, operands}
use Rattle.format.specs.Parts.{starts}
use Rattle.format.specs.inner.Standing.{FormAt}
use Rattle.format.proofs.Bridge.{length_times}
use Rattle.format.proofs.Forests.{plain_unroll}
use Rattle.format.proofs.Parts.{starts_behind}
use Rattle.format.proofs.Standing.{behind, step_there, group_there, step_byte, step_label, step_behind, group_byte, group_label, group_inside, group_behind, repeat_inside, repeat_behind}
use Rattle.index.specs.Nodes.{Node, Written, written, StandsIn, writes, marked, nodes_from, nodes_of}
use Rattle.index.proofs.Lists.{map_times}

-- As many as the run has nodes.
pub length_writes : (p : ℕ) (f : Forest) → length (writes p f) ≡ nodes f
unfolding writes nodes
length_writes p end = refl
length_writes p (step l f) = omega (arith, length_writes (p + 2) f)
length_writes p (group l b f) =
    omega (arith, length-append (writes (p + 2) b) (writes (p + 3 + length (bytes b)) f), length_writes (p + 2) b, length_writes (p + 3 + length (bytes b)) f)
length_writes p (repeat h w b f) =
    let body = writes (p + 5) b in
    let passes : length (times h body) ≡ h * nodes b = length_times h body ∙ ap (λ (n : ℕ). h * n) (length_writes (p + 5) b) in
    omega (arith, length-append (times h body) (writes (p + 6 + length (bytes b)) f), passes, length_writes (p + 6 + length (bytes b)) f)

-- One sequence behind another.
pub writes_join : (p : ℕ) (f g : Forest) (q : ℕ) → q ≡ p + length (bytes f) → writes p (join f g) ≡ writes p f ++ writes q g
unfolding writes join form_in
writes_join p end g q e = let h : q ≡ p = omega arith in rw h
writes_join p (step l f) g q e = ap (λ (ws : List Written). written 0x10 l p ∷ ws) (writes_join (p + 2) f g q (omega arith))
writes_join p (group l b f) g q e =
    rw (writes_join (p + 3 + length (bytes b)) f g q (omega (arith, length-append (bytes b) (0x12 ∷ bytes f))))
    (ap (λ (ws : List Written). written 0x11 l p ∷ ws) (sym (append_assoc (writes (p + 2) b) (writes (p + 3 + length (bytes b)) f) (writes q g))))
writes_join p (repeat h w b f) g q e =
    rw (writes_join (p + 6 + length (bytes b)) f g q (omega (arith, length-append (bytes b) (0x21 ∷ bytes f))))
    (sym (append_assoc (times h (writes (p + 5) b)) (writes (p + 6 + length (bytes b)) f) (writes q g)))

-- Without the offsets: what each item gives, wherever it stands.
unfoldable names : Forest → List Node
unfolding times
names end = []
names (step l f) = record { command = 0x10; label = l } ∷ names f
names (group l b f) = record { command = 0x11; label = l } ∷ names b ++ names f
names (repeat h w b f) = times h (names b) ++ names f

abbrev named : List Written → List Node
named ws = map (λ (w : Written). w.node) ws

writes_names : (p : ℕ) (f : Forest) → named (writes p f) ≡ names f
unfolding writes names
writes_names p end = refl
writes_names p (step l f) = rw (writes_names (p + 2) f)
writes_names p (group l b f) =
    rw (map-append (λ (w : Written). w.node) (writes (p + 2) b) (writes (p + 3 + length (bytes b)) f), writes_names (p + 2) b, writes_names (p + 3 + length (bytes b)) f)
writes_names p (repeat h w b f) =
    rw (map-append (λ (w : Written). w.node) (times h (writes (p + 5) b)) (writes (p + 6 + length (bytes b)) f), map_times (λ (w : Written). w.node) h (writes (p + 5) b), writes_names (p + 5) b, writes_names (p + 6 + length (bytes b)) f)

names_join : (f g : Forest) → names (join f g) ≡ names f ++ names g
unfolding names join
names_join end g = refl
names_join (step l f) g = rw (names_join f g)
names_join (group l b f) g = rw (names_join f g, append_assoc (names b) (names f) (names g))
names_join (repeat h w b f) g = rw (names_join f g, append_assoc (times h (names b)) (names f) (names g))

names_copies : (h : ℕ) (f : Forest) → names (copies h f) ≡ times h (names f)
unfolding names copies times
names_copies zero f = refl
names_copies (suc h) f = names_join f (copies h f) ∙ rw (names_copies h f)

names_unroll : (f : Forest) → names (unroll f) ≡ names f
unfolding names unroll
names_unroll end = refl
names_unroll (step l f) = rw (names_unroll f)
names_unroll (group l b f) = rw (names_unroll b, names_unroll f)
names_unroll (repeat h w b f) = names_join (copies h (unroll b)) (unroll f) ∙ rw (names_copies h (unroll b), names_unroll b, names_unroll f)

-- The nodes of a run's bytes.
names_bytes : (f : Forest) → Plain f → (rest : List ℕ) → nodes_from 0 (bytes f ++ rest) ≡ names f ++ nodes_from 0 rest
unfolding names form_in nodes_from
names_bytes end a rest = refl
names_bytes (step l f) a rest = rw (names_bytes f a rest)
names_bytes (group l b f) a rest =
    rw (append_assoc (bytes b) (0x12 ∷ bytes f) rest, names_bytes b a.0 (0x12 ∷ bytes f ++ rest), names_bytes f a.1 rest, append_assoc (names b) (names f) (nodes_from 0 rest))
names_bytes (repeat h w b f) a rest = absurd a

-- Without the offsets the list is the list of the nodes of the unrolled run.
pub writes_run : (p : ℕ) (f : Forest) → map (λ (w : Written). w.node) (writes p f) ≡ nodes_of (bytes (unroll f))
unfolding nodes_from
writes_run p f =
    writes_names p f
    ∙ sym (names_unroll f)
    ∙ sym (append-nil (names (unroll f)))
    ∙ sym (names_bytes (unroll f) (plain_unroll f) [])
    ∙ rw (append-nil (bytes (unroll f)))

-- Which command each node comes from: with each label replaced by the offset of its command, the labels of the unrolled run are the
-- offsets of the list.
abbrev label_of : Node → ℕ
label_of n = n.label

abbrev offset_of : Written → ℕ
offset_of w = w.offset

marked_names : (p : ℕ) (f : Forest) → map label_of (names (marked p f)) ≡ map offset_of (writes p f)
unfolding names marked writes
marked_names p end = refl
marked_names p (step l f) = rw (marked_names (p + 2) f)
marked_names p (group l b f) =
    rw (map-append label_of (names (marked (p + 2) b)) (names (marked (p + 3 + length (bytes b)) f)), map-append offset_of (writes (p + 2) b) (writes (p + 3 + length (bytes b)) f), marked_names (p + 2) b, marked_names (p + 3 + length (bytes b)) f)
marked_names p (repeat h w b f) =
    rw (map-append label_of (times h (names (marked (p + 5) b))) (names (marked (p + 6 + length (bytes b)) f)), map-append offset_of (times h (writes (p + 5) b)) (writes (p + 6 + length (bytes b)) f), map_times label_of h (names (marked (p + 5) b)), map_times offset_of h (writes (p + 5) b), marked_names (p + 5) b, marked_names (p + 6 + length (bytes b)) f)

pub writes_from : (p : ℕ) (f : Forest)
    → map (λ (w : Written). w.offset) (writes p f) ≡ map (λ (n : Node). n.label) (nodes_of (bytes (unroll (marked p f))))
writes_from p f =
    sym (marked_names p f) ∙ ap (map label_of) (sym (writes_names 0 (marked p f)) ∙ writes_run 0 (marked p f))

-- Operand bytes are passed over.
starts_skip : (o r : List ℕ) (n : ℕ) → starts (length o + n) (length o) (o ++ r) ≡ starts n 0 r
unfolding starts
starts_skip [] r n = rw zero-add
starts_skip (x ∷ o) r n = rw suc-add (starts_skip o r n)

-- All of a list stand in the fold, so each one.
abbrev AllStand : List ℕ → List Written → Type 0
AllStand s [] = Unit
AllStand s (w ∷ ws) = StandsIn s w × AllStand s ws

module _ (s : List ℕ) where
  stand_append : (ws vs : List Written) → AllStand s ws → AllStand s vs → AllStand s (ws ++ vs)
  stand_append [] vs a b = b
  stand_append (w ∷ ws) vs a b = (a.0, stand_append ws vs a.1 b)

  stand_times : (h : ℕ) (ws : List Written) → AllStand s ws → AllStand s (times h ws)
  unfolding times
  stand_times zero ws a = tt
  stand_times (suc h) ws a = stand_append ws (times h ws) a (stand_times h ws a)

  stand_nth : (ws : List Written) (n : ℕ) (w : Written) → AllStand s ws → get_elem? ws n ≡ some w → StandsIn s w
  stand_nth [] n w a e = absurd (none-ne-some w e)
  stand_nth (v ∷ ws) zero w a e = rw (some-injective v w e) at a.0
  stand_nth (v ∷ ws) (suc n) w a e = stand_nth ws n w a.1 e

  -- A command starts at p, so commands start behind it as they do in the bytes from p on.
  abbrev Boundary : ℕ → Type 0
  Boundary p = (n : ℕ) → starts (p + n) 0 s ≡ starts n 0 (drop p s)

  boundary_start : Boundary 0
  boundary_start n = rw zero-add

  -- Behind a command and its operands another one starts, and behind a whole sequence.
  boundary_command : (p : ℕ) {c : ℕ} (o r : List ℕ) → drop p s ≡ c ∷ o ++ r → operands c ≡ length o → Boundary p
      → (q : ℕ) → q ≡ p + suc (length o) → Boundary q
  unfolding starts
  boundary_command p {c} o r form size b q e n =
      let at : q + n ≡ p + suc (length o + n) = omega arith in
      let there : drop q s ≡ r = rw e (sym (drop-drop (suc (length o)) p s) ∙ rw form (drop-append_seam o r)) in
      rw (at, b (suc (length o + n)), form, there) (ap (λ (k : ℕ). starts (length o + n) k (o ++ r)) size ∙ starts_skip o r n)

  boundary_behind : (p : ℕ) (f : Forest) (rest : List ℕ) → FormAt s p f rest → Boundary p
      → (q : ℕ) → q ≡ p + length (bytes f) → Boundary q
  boundary_behind p f rest z b q e n =
      let at : q + n ≡ p + (length (bytes f) + n) = omega arith in
      rw (at, b (length (bytes f) + n), z.form, behind z q e) (starts_behind f n rest)

  starts_at : (p : ℕ) {c : ℕ} (r : List ℕ) → drop p s ≡ c ∷ r → is_node c ≡ true → Boundary p → starts p 0 s ≡ true
  unfolding starts
  starts_at p r form node b = let at : p + 0 ≡ p = omega arith in rw (← at, b 0, form, node)

  label_at : (p : ℕ) → suc p ≡ p + 1
  label_at p = omega arith

  stand_writes : (f : Forest) (p : ℕ) (rest : List ℕ) → FormAt s p f rest → Boundary p → AllStand s (writes p f)
  unfolding writes form_in
  stand_writes end p rest z b = tt
  stand_writes (step l f) p rest z b =
      let here : StandsIn s (written 0x10 l p) =
      record { starts_there = starts_at p (l ∷ bytes f ++ rest) z.form refl b; command_there = step_byte z; label_there = rw (label_at p) (step_label z); within = omega (arith, step_there z) } in
      (here, stand_writes f (p + 2) rest (step_behind z) (boundary_command p (l ∷ []) (bytes f ++ rest) z.form refl b (p + 2) refl))
  stand_writes (group l d f) p rest z b =
      let inside = 0x12 ∷ bytes f ++ rest in
      let here : StandsIn s (written 0x11 l p) =
      record { starts_there = starts_at p (l ∷ (bytes d ++ 0x12 ∷ bytes f) ++ rest) z.form refl b; command_there = group_byte z; label_there = rw (label_at p) (group_label z); within = omega (arith, group_there z) } in
      let first : Boundary (p + 2) = boundary_command p (l ∷ []) ((bytes d ++ 0x12 ∷ bytes f) ++ rest) z.form refl b (p + 2) refl in
      let closed : Boundary (p + 2 + length (bytes d)) = boundary_behind (p + 2) d inside (group_inside z) first (p + 2 + length (bytes d)) refl in
      let next : Boundary (p + 3 + length (bytes d)) =
      boundary_command (p + 2 + length (bytes d)) [] (bytes f ++ rest) (behind (group_inside z) (p + 2 + length (bytes d)) refl) refl closed (p + 3 + length (bytes d)) (omega arith) in (
        here,
        stand_append (writes (p + 2) d) (writes (p + 3 + length (bytes d)) f)
            (stand_writes d (p + 2) inside (group_inside z) first)
            (stand_writes f (p + 3 + length (bytes d)) rest (group_behind z (p + 3 + length (bytes d)) refl) next),
      )
  stand_writes (repeat h w d f) p rest z b =
      let inside = 0x21 ∷ bytes f ++ rest in
      let first : Boundary (p + 5) =
      boundary_command p (h / 256 ∷ h % 256 ∷ w / 256 ∷ w % 256 ∷ []) ((bytes d ++ 0x21 ∷ bytes f) ++ rest) z.form refl b (p + 5) refl in
      let closed : Boundary (p + 5 + length (bytes d)) = boundary_behind (p + 5) d inside (repeat_inside z) first (p + 5 + length (bytes d)) refl in
      let next : Boundary (p + 6 + length (bytes d)) =
      boundary_command (p + 5 + length (bytes d)) [] (bytes f ++ rest) (behind (repeat_inside z) (p + 5 + length (bytes d)) refl) refl closed (p + 6 + length (bytes d)) (omega arith) in
      stand_append (times h (writes (p + 5) d)) (writes (p + 6 + length (bytes d)) f)
      (stand_times h (writes (p + 5) d) (stand_writes d (p + 5) inside (repeat_inside z) first))
      (stand_writes f (p + 6 + length (bytes d)) rest (repeat_behind z (p + 6 + length (bytes d)) refl) next)

-- At each offset of the list the fold has that command with that label.
pub writes_stand : (f : Forest) (s : List ℕ) → FormAt s 0 f [] → (n : ℕ) (w : Written) → get_elem? (writes 0 f) n ≡ some w → StandsIn s w
writes_stand f s z n w e = stand_nth s (writes 0 f) n w (stand_writes s f 0 [] z (boundary_start s)) e
