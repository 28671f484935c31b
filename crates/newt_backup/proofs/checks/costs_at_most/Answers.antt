use Rattle.std.proofs.Common.{rules, ◌≡◌, ◌+◌, sym, ◌∙◌, ap, length, nat_le}
use Rattle.std.specs.List.{sum_by}
use Rattle.newt_entries.specs.Full.{as_entry}
use Rattle.newt_entries.specs.declared.full.FullEntry.{FullEntry}
use Rattle.newt_spec_image.specs.Objects.{pages_for}
use Rattle.newt_soupdir.specs.Bare.{bare_store}
use Rattle.newt_spec_store.specs.Cost.{directory_bytes, entry_pages}
use Rattle.newt_backup.proofs.Back.{cost-is}
use Rattle.newt_backup.proofs.Contents.{directory-formed}
use Rattle.newt_backup.proofs.checks.costs_at_most.Goals as goal

pub write_directory-requires : goal.write_directory-requires
write_directory-requires c = directory-formed c.args.directory.now c.args.entries.now c.requires.kept

pub returns : goal.returns
returns c =
    let size : c.len.result ≡ length (directory_bytes (bare_store c.args.directory.now)) = search rules in
    let same : c.from.result ≡ c.args.most = search rules in
    c.fit.ensures ∙ (λ i. nat_le (pages_for (size i) + sum_by (λ (e : FullEntry). entry_pages (as_entry e)) c.args.entries.now) (same i))
    ∙ ap (λ n. nat_le n c.args.most) (sym (cost-is c.args.directory.now c.args.entries.now c.requires.kept.in_order))
