-- The unit is looked up, the cursor is open, and the hit is there.
use Rattle.std.proofs.Common.{arith, ◌≡◌, ◌∙◌, ◌*◌, refl, ap, sym, subst, ℕ, true, option_map}
use Rattle.std.specs.Prelude.{Result, Err, is_none, slice_get}
use Rattle.newt_base.specs.declared.Refusal.TheVariants.{Entry as NoEntry}
use Rattle.newt_store_change.specs.declared.fault.StoreFault.TheVariants.{Refused}
use Rattle.std.proofs.lemmas.Result.{err_from_is_err_and}
use Rattle.newt_spec_query.specs.Cursor.{on}
use Rattle.newt_spec_world.specs.World.{World, flat, set_place}
use Rattle.newt_laws_answers.specs.Fetched.{pages_shown}
use Rattle.newt_laws_world.specs.Cursors.{with_cursors}
use Rattle.newt_laws_world.specs.Settled.{IsSettled, MountedApart}
use Rattle.newt_engine_card.specs.Bounds.{FetchesAtMost}
use Rattle.newt_spec_world.specs.declared.command.Command.TheVariants as command
use Rattle.newt_laws_answers.specs.There.{OnUnit}
use Rattle.newt_store_change.specs.Faults.{NoDevice}
use Rattle.newt_store_change.specs.declared.fault.StoreFault.{StoreFault}
use Rattle.newt_engine_units.specs.Answers.{Answers}
use Rattle.newt_engine_units.specs.Looks.{known_unit}
use Rattle.newt_engine_units.specs.Stands.{Stands, Eight}
use Rattle.newt_engine_units.proofs.Known.{Laws, card-known, mounted-known, unit-checks-are}
use Rattle.newt_engine_units.proofs.Obeying.{handed, none-refused}
use Rattle.newt_engine_units.proofs.Settings.{is-err}
use Rattle.newt_index.specs.Spots.{spot_hit}
use Rattle.newt_engine_hits.proofs.Reading.{asked-read, read-more}
use Rattle.newt_engine_cursors.specs.Keyed.{seen_cursor}
use Rattle.newt_engine_cursors.specs.Replies.{shown_at, shown_reply}
use Rattle.newt_engine_cursors.specs.Calls.{Shows}
use Rattle.newt_engine_cursors.specs.World.{world_with}
use Rattle.newt_engine_cursors.specs.declared.show.Shown.{Shown}
use Rattle.newt_engine_cursors.proofs.Calls.{all-kept, ended-fetches, stays, turns-end, turns-read, turns-settled, settles-reads, settles-after, walks-of, unread-query}
use Rattle.newt_engine_cursors.proofs.Stepped.{still-settled}
use Rattle.newt_engine_cursors.proofs.Going.{unit-faults, no-cursor-goto, no-hit-goto, hit-goto, goto-does-so, goto-few, goto-pages}
use Rattle.newt_engine_cursors.proofs.stepping.go_to.Goals as goal

pub returns-in_err-find_unit : goal.returns-in_err-find_unit
returns-in_err-find_unit g c = stays c.requires.stands c.requires.desk
    (handed (λ fault. NoDevice fault) c.from_residual.result _ (err_from_is_err_and c.from_residual.result c.from_residual.ensures.1) (none-refused (known_unit c.args.units.now.slots.items c.args.unit) _ c.in_err-find_unit.ensures)) (λ t apart.
    let laws : Laws g.C.Card.reads g.C.Card.place g.C.Card.soups g.C.Card.stands = record { formed = g.met.C.Card.formed; plain = g.met.C.Card.plain; durable = g.met.C.Card.durable; banks = g.met.C.Card.banks; kept = g.met.C.Card.kept } in
    let o = g.H.Host.outside c.args.host.now in
    let eight : Eight (g.H.Host.outside c.args.host.now) = record { eight = g.met.H.Host.eight c.args.host.now; none = g.met.H.Host.none c.args.host.now } in
    let stand : Stands g.C.Card.place g.C.Card.stands true c.args.units.now o = subst (λ b. Stands g.C.Card.place g.C.Card.stands b c.args.units.now o) t c.requires.stands in
    let w = world_with g.C.Card.reads c.args.units.now c.args.desk.now o in
    unit-faults w c.args.cursor c.args.unit c.args.uid (known_unit c.args.units.now.slots.items c.args.unit) (unit-checks-are laws c.args.units.now o eight stand c.args.unit)
    _ c.in_err-find_unit.ensures _ (is-err c.from_residual.result _ (err_from_is_err_and c.from_residual.result c.from_residual.ensures.1)))

pub returns-in_default : goal.returns-in_default
returns-in_default g c = stays c.requires.stands c.requires.desk tt (λ t apart.
    let laws : Laws g.C.Card.reads g.C.Card.place g.C.Card.soups g.C.Card.stands = record { formed = g.met.C.Card.formed; plain = g.met.C.Card.plain; durable = g.met.C.Card.durable; banks = g.met.C.Card.banks; kept = g.met.C.Card.kept } in
    let o = g.H.Host.outside c.args.host.now in
    let eight : Eight (g.H.Host.outside c.args.host.now) = record { eight = g.met.H.Host.eight c.args.host.now; none = g.met.H.Host.none c.args.host.now } in
    let stand : Stands g.C.Card.place g.C.Card.stands true c.args.units.now o = subst (λ b. Stands g.C.Card.place g.C.Card.stands b c.args.units.now o) t c.requires.stands in
    let w = world_with g.C.Card.reads c.args.units.now c.args.desk.now o in
    let m = mounted-known laws c.args.units.now o eight stand c.args.unit c.in_ok-find_unit.ensures in
    let p = card-known laws c.args.units.now o eight stand c.args.unit m.0 m.1 in
    let there : OnUnit w c.args.unit (o.blocks c.args.unit) p.store = record { device_is = p.on.device_is } in
    no-cursor-goto w c.args.cursor c.args.unit c.args.uid (o.blocks c.args.unit) p.store there (ap is_none (sym c.in_default.ensures)))

pub returns-in_err-spot : goal.returns-in_err-spot
returns-in_err-spot g c =
    walks-of (turns-end (λ (r : Result Shown StoreFault) (w v : World). Answers w v (command.Goto c.args.cursor c.args.unit c.args.uid) shown_reply r) c.in_err-spot.ensures.reading c.requires.desk (all-kept _ _)
    c.from_residual-in_err-spot.result (err_from_is_err_and c.from_residual-in_err-spot.result c.from_residual-in_err-spot.ensures.1) (λ w v. tt))
    (λ t apart settled d. d)
    (λ t apart settled un. (λ u. let z = (c.in_err-spot.ensures.reading.unread (unread-query (flat (slice_get c.args.desk.now c.args.cursor)) (seen_cursor (c.in-Some.query, c.in-Some.field-0-1)) c.in-Some.ensures un)) u in omega (arith, z)))
    (λ un. ended-fetches shown_reply _ _ c.from_residual-in_err-spot.result (err_from_is_err_and c.from_residual-in_err-spot.result c.from_residual-in_err-spot.ensures.1))

pub returns-in_default-2 : goal.returns-in_default-2
returns-in_default-2 g c =
    let laws : Laws g.C.Card.reads g.C.Card.place g.C.Card.soups g.C.Card.stands = record { formed = g.met.C.Card.formed; plain = g.met.C.Card.plain; durable = g.met.C.Card.durable; banks = g.met.C.Card.banks; kept = g.met.C.Card.kept } in
    let o = g.H.Host.outside c.args.host.now in
    let eight : Eight (g.H.Host.outside c.args.host.now) = record { eight = g.met.H.Host.eight c.args.host.now; none = g.met.H.Host.none c.args.host.now } in
    let w = world_with g.C.Card.reads c.args.units.now c.args.desk.now o in
    let k = seen_cursor (c.in-Some.query, c.in-Some.field-0-1) in
    walks-of (turns-read {becomes = λ w v. Answers w v (command.Goto c.args.cursor c.args.unit c.args.uid) shown_reply (Err (Refused NoEntry))} c.in_ok-spot.ensures.reading.read c.in_ok-spot.ensures.reading.no_fault c.requires.desk tt (λ t apart.
    let stand : Stands g.C.Card.place g.C.Card.stands true c.args.units.now o = subst (λ b. Stands g.C.Card.place g.C.Card.stands b c.args.units.now o) t c.requires.stands in
    let m = mounted-known laws c.args.units.now o eight stand c.args.unit c.in_ok-find_unit.ensures in
    let p = card-known laws c.args.units.now o eight stand c.args.unit m.0 m.1 in
    let there : OnUnit w c.args.unit (o.blocks c.args.unit) p.store = record { device_is = p.on.device_is } in
    no-hit-goto w c.args.cursor c.args.unit c.args.uid (o.blocks c.args.unit) p.store there k (sym c.in-Some.ensures)
    (sym (c.in_ok-spot.ensures.found t apart k refl) ∙ ap (option_map spot_hit) c.in_default-2.is)))
    (λ t apart settled d. d)
    (λ t apart settled un. (λ u. let z = (c.in_ok-spot.ensures.reading.unread (unread-query (flat (slice_get c.args.desk.now c.args.cursor)) k c.in-Some.ensures un)) u in omega (arith, z)))
    (λ un. (λ u. let z = (c.in_ok-spot.ensures.reading.unread (unread-query (flat (slice_get c.args.desk.now c.args.cursor)) k c.in-Some.ensures un)) u in omega (arith, z)))

pub returns-in_err-move_to : goal.returns-in_err-move_to
returns-in_err-move_to g c =
    let r = c.from_residual-in_err-move_to.result in
    let read = c.in_ok-spot.ensures.reading in
    let laws : Laws g.C.Card.reads g.C.Card.place g.C.Card.soups g.C.Card.stands = record { formed = g.met.C.Card.formed; plain = g.met.C.Card.plain; durable = g.met.C.Card.durable; banks = g.met.C.Card.banks; kept = g.met.C.Card.kept } in
    let o = g.H.Host.outside c.args.host.now in
    let eight : Eight (g.H.Host.outside c.args.host.now) = record { eight = g.met.H.Host.eight c.args.host.now; none = g.met.H.Host.none c.args.host.now } in
    let w = world_with g.C.Card.reads c.args.units.now c.args.desk.now o in
    let k = seen_cursor (c.in-Some.query, c.in-Some.field-0-1) in
    let h = spot_hit c.in-Some-2.spot in
    walks-of (turns-end (λ (r : Result Shown StoreFault) (w v : World). Answers w v (command.Goto c.args.cursor c.args.unit c.args.uid) shown_reply r)
    (read-more {asks = true} read.read read.no_fault (asked-read refl) (settles-reads c.in_err-move_to.ensures.moved)) c.in_err-move_to.ensures.moved.desk c.in_err-move_to.ensures.moved.kept r (err_from_is_err_and r c.from_residual-in_err-move_to.ensures.1) (λ w v. tt))
    (λ t apart settled d. d)
    (λ t apart settled un.
    let stand : Stands g.C.Card.place g.C.Card.stands true c.args.units.now o = subst (λ b. Stands g.C.Card.place g.C.Card.stands b c.args.units.now o) t c.requires.stands in
    let m = mounted-known laws c.args.units.now o eight stand c.args.unit c.in_ok-find_unit.ensures in
    let p = card-known laws c.args.units.now o eight stand c.args.unit m.0 m.1 in
    let there : OnUnit w c.args.unit (o.blocks c.args.unit) p.store = record { device_is = p.on.device_is } in
    let is = sym (c.in_ok-spot.ensures.found t apart k refl) ∙ ap (option_map spot_hit) c.in-Some-2.is in
    let after : IsSettled (set_place w c.args.cursor (on h)) =
    subst IsSettled (goto-does-so w c.args.cursor c.args.unit c.args.uid (o.blocks c.args.unit) p.store there k (sym c.in-Some.ensures) h is)
    (still-settled laws g.H.Host.told c.args.units.now c.args.desk.now o eight c.requires.stands (command.Goto c.args.cursor c.args.unit c.args.uid) t apart settled (goto-few w c.args.cursor c.args.unit c.args.uid)) in
    let same : world_with g.C.Card.reads c.spot_on.new.units c.args.desk.now (g.H.Host.outside c.spot_on.new.host) ≡ w = ap (with_cursors c.args.desk.now) (read.read.world t) in
    (λ u. let e = ap (λ (k : ℕ). 512 * k) (goto-pages w c.args.cursor c.args.unit c.args.uid (o.blocks c.args.unit) p.store there k (sym c.in-Some.ensures) h is after u) in let x = (read.unread (unread-query (flat (slice_get c.args.desk.now c.args.cursor)) k c.in-Some.ensures un)) u in let y = (subst (λ (x : World). FetchesAtMost (λ u. 512 * pages_shown (shown_at (set_place x c.args.cursor (on h)) c.args.cursor) u) (g.H.Host.outside c.spot_on.new.host) (g.H.Host.outside c.move_to.new.host)) same
    (c.in_err-move_to.ensures.fetches t (subst MountedApart (sym same) apart) un)) u in omega (arith, e, x, y)))
    (λ un. ended-fetches shown_reply _ _ r (err_from_is_err_and r c.from_residual-in_err-move_to.ensures.1))

pub returns : goal.returns
returns g c =
    let read = c.in_ok-spot.ensures.reading in
    let laws : Laws g.C.Card.reads g.C.Card.place g.C.Card.soups g.C.Card.stands = record { formed = g.met.C.Card.formed; plain = g.met.C.Card.plain; durable = g.met.C.Card.durable; banks = g.met.C.Card.banks; kept = g.met.C.Card.kept } in
    let o = g.H.Host.outside c.args.host.now in
    let eight : Eight (g.H.Host.outside c.args.host.now) = record { eight = g.met.H.Host.eight c.args.host.now; none = g.met.H.Host.none c.args.host.now } in
    let w = world_with g.C.Card.reads c.args.units.now c.args.desk.now o in
    let k = seen_cursor (c.in-Some.query, c.in-Some.field-0-1) in
    let h = spot_hit c.in-Some-2.spot in
    walks-of (turns-settled {other = λ w v. Shows (set_place w c.args.cursor (on h)) v c.args.cursor c.in_ok-move_to.field-0} (settles-after read.read read.no_fault c.in_ok-move_to.ensures.moved) (λ t apart x. x))
    (λ t apart settled x.
    let stand : Stands g.C.Card.place g.C.Card.stands true c.args.units.now o = subst (λ b. Stands g.C.Card.place g.C.Card.stands b c.args.units.now o) t c.requires.stands in
    let m = mounted-known laws c.args.units.now o eight stand c.args.unit c.in_ok-find_unit.ensures in
    let p = card-known laws c.args.units.now o eight stand c.args.unit m.0 m.1 in
    let there : OnUnit w c.args.unit (o.blocks c.args.unit) p.store = record { device_is = p.on.device_is } in
    let is = sym (c.in_ok-spot.ensures.found t apart k refl) ∙ ap (option_map spot_hit) c.in-Some-2.is in
    let after : IsSettled (set_place w c.args.cursor (on h)) =
    subst IsSettled (goto-does-so w c.args.cursor c.args.unit c.args.uid (o.blocks c.args.unit) p.store there k (sym c.in-Some.ensures) h is)
    (still-settled laws g.H.Host.told c.args.units.now c.args.desk.now o eight c.requires.stands (command.Goto c.args.cursor c.args.unit c.args.uid) t apart settled (goto-few w c.args.cursor c.args.unit c.args.uid)) in
    hit-goto w c.args.cursor c.args.unit c.args.uid (o.blocks c.args.unit) p.store there k (sym c.in-Some.ensures) h is after _ c.in_ok-move_to.field-0 x)
    (λ t apart settled un.
    let stand : Stands g.C.Card.place g.C.Card.stands true c.args.units.now o = subst (λ b. Stands g.C.Card.place g.C.Card.stands b c.args.units.now o) t c.requires.stands in
    let m = mounted-known laws c.args.units.now o eight stand c.args.unit c.in_ok-find_unit.ensures in
    let p = card-known laws c.args.units.now o eight stand c.args.unit m.0 m.1 in
    let there : OnUnit w c.args.unit (o.blocks c.args.unit) p.store = record { device_is = p.on.device_is } in
    let is = sym (c.in_ok-spot.ensures.found t apart k refl) ∙ ap (option_map spot_hit) c.in-Some-2.is in
    let after : IsSettled (set_place w c.args.cursor (on h)) =
    subst IsSettled (goto-does-so w c.args.cursor c.args.unit c.args.uid (o.blocks c.args.unit) p.store there k (sym c.in-Some.ensures) h is)
    (still-settled laws g.H.Host.told c.args.units.now c.args.desk.now o eight c.requires.stands (command.Goto c.args.cursor c.args.unit c.args.uid) t apart settled (goto-few w c.args.cursor c.args.unit c.args.uid)) in
    let same : world_with g.C.Card.reads c.spot_on.new.units c.args.desk.now (g.H.Host.outside c.spot_on.new.host) ≡ w = ap (with_cursors c.args.desk.now) (read.read.world t) in
    (λ u. let e = ap (λ (k : ℕ). 512 * k) (goto-pages w c.args.cursor c.args.unit c.args.uid (o.blocks c.args.unit) p.store there k (sym c.in-Some.ensures) h is after u) in let x = (read.unread (unread-query (flat (slice_get c.args.desk.now c.args.cursor)) k c.in-Some.ensures un)) u in let y = (subst (λ (x : World). FetchesAtMost (λ u. 512 * pages_shown (shown_at (set_place x c.args.cursor (on h)) c.args.cursor) u) (g.H.Host.outside c.spot_on.new.host) (g.H.Host.outside c.move_to.new.host)) same
    (c.in_ok-move_to.ensures.fetches t (subst MountedApart (sym same) apart) un)) u in omega (arith, e, x, y)))
    (λ un u. let x = (read.unread (unread-query (flat (slice_get c.args.desk.now c.args.cursor)) k c.in-Some.ensures un)) u in let y = (c.in_ok-move_to.ensures.pages un) u in omega (arith, x, y))
