use Rattle.std.proofs.Common.{◌≡◌, ◌≤◌, ◌-◌, List, Option, length}
use Rattle.newt_notify.specs.Watch.{Watching, kept_all}
use Rattle.newt_notify.proofs.Noting.{noted_below}
use Rattle.newt_notify.proofs.watches.note_each.Given as goal

abbrev pub invariant-each : goal.invariant-each
invariant-each l = record { few : l.at ≤ length l.places; so_far : (ws : List (Option Watching)) → l.initial.places ≡ kept_all ws → l.places ≡ kept_all (noted_below l.name l.note l.at ws) }

abbrev pub decreases-each : goal.decreases-each
decreases-each l = length l.places - l.at
