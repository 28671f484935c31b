use Rattle.std.proofs.Common.{◌∙◌, ap, List, ℕ, replicate}
use Rattle.newt_host.specs.Moments.{overwritten}
use Rattle.newt_objects.proofs.Parts.{pieces_written}
use Rattle.newt_objects.proofs.part.part_page.Goals as goal

pub returns : goal.returns
returns c = pieces_written c.args.id c.args.part c.args.size c.args.bytes.now c.put_bytes.new.page c.put_bytes-2.new.page c.put_bytes-3.new.page c.put_bytes-4.new.page c.requires
    (c.put_bytes.ensures ∙ ap (λ (l : List ℕ). overwritten (replicate 512 0) 0 l) c.to_be_bytes.ensures)
    (c.put_bytes-2.ensures ∙ ap (λ (l : List ℕ). overwritten c.put_bytes.new.page 4 l) c.to_be_bytes-2.ensures)
    (c.put_bytes-3.ensures ∙ ap (λ (l : List ℕ). overwritten c.put_bytes-2.new.page 8 l) c.to_be_bytes-3.ensures)
    c.put_bytes-4.ensures
