-- The place decides.
use Rattle.std.proofs.Common.{◌∙◌, ap, sym, option_map}
use Rattle.newt_cursor.specs.Seen.{place_of}
use Rattle.newt_engine_cursors.specs.Reached.{seen_reach}
use Rattle.newt_engine_cursors.proofs.Reaches.{reached-none, reached-place}
use Rattle.newt_engine_cursors.proofs.settling.is_reached.Goals as goal

pub returns-in-Some : goal.returns-in-Some
returns-in-Some c = c.is_place_reached.ensures ∙ reached-place (seen_reach c.args.reach.now) _ (place_of c.in-Some.place.now) (ap (option_map (λ p. place_of p.now)) (sym c.in-Some.is) ∙ c.place.ensures)

pub returns-in-None : goal.returns-in-None
returns-in-None c = reached-none (seen_reach c.args.reach.now) _ (ap (option_map (λ p. place_of p.now)) (sym c.in-None.is) ∙ c.place.ensures)
