-- A cursor is opened, counted, asked for its side, cloned or closed.
use Rattle.std.proofs.Common.{refl, sym}
use Rattle.newt_spec_graph.proofs.Lists.{both-ways}
use Rattle.newt_engine_units.specs.Stands.{world_of}
use Rattle.newt_engine_hits.proofs.Reading.{not-read}
use Rattle.newt_engine.proofs.Groups.{no_place}
use Rattle.newt_engine.proofs.Handed.{blameless}
use Rattle.newt_engine.proofs.Keeping.{err_refused, side_never}
use Rattle.newt_engine.proofs.Obeying.{handed_placed, handed_walked, side_quiet}
use Rattle.newt_engine.proofs.world.World.change_places.Goals as goal

pub returns-in-Query : goal.returns-in-Query
returns-in-Query g c =
    let call = c.query.ensures in
    handed_walked c.opened.ensures c.in-Query.is refl refl refl (λ x r k. cc) (λ x u. refl) call

pub returns-in-QueryAll : goal.returns-in-QueryAll
returns-in-QueryAll g c =
    let call = c.query_all.ensures in
    handed_walked c.opened-in-QueryAll.ensures c.in-QueryAll.is refl refl refl (λ x r k. cc) (λ x u. refl) call

pub returns-in-Count : goal.returns-in-Count
returns-in-Count g c =
    let call = c.count.ensures in
    handed_walked c.numbered.ensures c.in-Count.is refl refl refl (λ x r k. cc) (λ x u. refl) call

pub returns-in-Which : goal.returns-in-Which
returns-in-Which g c =
    let o = g.H.Host.outside c.args.host.now in
    let call = c.which.ensures in
    handed_placed c.sided.ensures c.in-Which.is refl side_never (λ no. refl) (not-read c.requires.stands) c.requires.desk (call.answered (world_of g.C.Card.reads c.args.self.now.units o)) (blameless _ call.only) (λ no. call.only) side_quiet

pub returns-in-Clone : goal.returns-in-Clone
returns-in-Clone g c =
    let o = g.H.Host.outside c.args.host.now in
    let call = c.clone_of.ensures in
    handed_placed c.opened-in-Clone.ensures c.in-Clone.is refl (λ x r k. cc) (err_refused _ _ call.kept) (not-read c.requires.stands) call.desk (call.answered (world_of g.C.Card.reads c.args.self.now.units o)) call.only (λ no. absurd (both-ways (sym no))) (λ x u. refl)

pub returns-in-Close : goal.returns-in-Close
returns-in-Close g c =
    let o = g.H.Host.outside c.args.host.now in
    let call = c.close.ensures in
    handed_placed c.done.ensures c.in-Close.is refl (λ x r k. cc) (err_refused _ _ call.kept) (not-read c.requires.stands) call.desk (call.answered (world_of g.C.Card.reads c.args.self.now.units o)) (blameless _ call.only) (λ no. call.only) (λ x u. refl)

pub returns-in_default : goal.returns-in_default
returns-in_default g c =
    let d = c.in_default in absurd (no_place c.args.command.now c.requires.on_place d.not-Query d.not-QueryAll d.not-Count d.not-Which d.not-Clone d.not-Close)
