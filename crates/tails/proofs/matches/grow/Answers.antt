-- `grow` meets its contract: at each turn the matches at the widths so far are those of step i.
use mathlib.Core.Path.{ap}
use native.Mathlib.Omega.{arith}
use lib.ListN.{length}
use Rattle.format.specs.Tree.{tree_of}
use Rattle.blocks.proofs.Flats.{flat_size}
use Rattle.tails.proofs.Growths.{next_low, grown_more, grown_all}
use Rattle.tails.proofs.matches.grow.Goals as goal

pub match_at-requires : goal.match_at-requires
match_at-requires c =
    let f = c.requires.flat_run in
    let g = c.loop-w.invariant f in
    let t = tree_of c.args.run.now in (
      omega (arith, flat_size t f.flat, ap length f.stands, f.all),
      f.few,
      c.requires.i_lt_n.0,
      omega arith,
      next_low _ _ _ _ f g c.requires.i_lt_n.0 (omega arith) (omega arith) c.requires.matching,
    )

pub loop-w-preserved : goal.loop-w-preserved
loop-w-preserved c =
    λ f. grown_more _ _ _ _ f (c.loop-w.invariant f) c.requires.i_lt_n.0 (omega arith) (omega arith) (omega arith) c.requires.matching _ c.match_at.ensures

pub returns : goal.returns
returns c =
    let f = c.requires.flat_run in
    grown_all _ _ _ _ f (c.loop-w.invariant f) (omega arith)
