use Rattle.std.proofs.Common.{◌≡◌, map as map_list, refl, ◌∙◌, ap}
use Rattle.newt_objects_commit.specs.declared.batch.NewLarge.{NewLarge}
use Rattle.newt_spec_store.specs.Image.{entry_bytes}
use Rattle.newt_spec_store.specs.Store.{Entry}
use Rattle.newt_store.proofs.plan.entry_of.Goals as goal

pub returns-clause-entry : goal.returns-clause-entry
returns-clause-entry c =
    let x : Entry = record { uid = c.args.uid; time = c.args.now; graph = c.args.graph.now } in
    let with = c.in_ok-larges.ensures in
    let ids : c.deref-2.result.now ≡ map_list (λ (l : NewLarge). l.id) c.in_ok-larges.larges.items = c.deref-2.ensures.value ∙ c.in_ok-ids.ensures ∙ ap (map_list (λ (l : NewLarge). l.id)) c.deref.ensures.value in
    record {
      of_sig = refl;
      of_uid = refl;
      bytes = c.in_ok-bytes.ensures ∙ ap (entry_bytes c.args.sig x) ids;
      larges_are = with.bytes ∙ c.in_ok-larges_of.ensures;
      ids = record { odd = c.requires.odd; even = with.even; once = with.once };
      ids_fit = with.fit;
    }
