use Rattle.std.proofs.Common.{◌≡◌, List, [], ◌∷◌, ◌++◌, map as map_list, sym, ◌∙◌, ap, subst}
use Rattle.std.proofs.lemmas.List.{map-append}
use Rattle.newt_objects_commit.specs.declared.batch.NewLarge.{NewLarge}
use Rattle.newt_store.specs.Fill.{AreNextIds}
use Rattle.newt_store.proofs.Filled.{next-larges-more}
use Rattle.newt_store.proofs.fill.with_next_ids.Goals as goal

pub loop-bytes-preserved : goal.loop-bytes-preserved
loop-bytes-preserved c =
    let i = c.loop-bytes.invariant in
    let l : NewLarge = record { id = c.in_ok-id.id; bytes = c.in-Some.bytes } in
    let pushed : c.push.new.self.items ≡ c.loop-bytes.new.items ++ l ∷ [] = c.in_ok-push.ensures.items in
    let e = c.in_ok-id.ensures in
    record {
      bytes = ap (map_list (λ (x : NewLarge). x.bytes.items)) pushed ∙ map-append (λ (x : NewLarge). x.bytes.items) c.loop-bytes.new.items (l ∷ [])
          ∙ ap (λ (xs : List (List _)). xs ++ c.in-Some.bytes.items ∷ []) i.bytes ∙ sym (map-append (λ b. b.items) c.loop-bytes.yielded (c.in-Some.bytes ∷ []));
      ids = subst (λ (ls : List NewLarge). AreNextIds c.args.from l.id (map_list (λ (x : NewLarge). x.id) ls)) (sym pushed)
          (next-larges-more c.args.from c.loop-bytes.last c.loop-bytes.new.items l i.ids e.next e.fits);
    }
