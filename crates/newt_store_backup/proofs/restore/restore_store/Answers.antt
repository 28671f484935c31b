use Rattle.std.proofs.Common.{◌≡◌}
use Rattle.newt_backup.specs.Contents.{store_in}
use Rattle.newt_store_backup.proofs.Restored.{are-store}
use Rattle.newt_store_backup.proofs.restore.restore_store.Goals as goal

pub fill-requires-clause-whole : goal.fill-requires-clause-whole
fill-requires-clause-whole g c =
    let d = c.args.directory.now in
    let es = c.args.entries.now in
    (store_in d es, are-store ((g.H.Host.outside c.args.host.now).blocks c.args.unit) d es c.requires.kept c.requires.fits)

pub returns-in-Ok : goal.returns-in-Ok
returns-in-Ok g c =
    let d = c.args.directory.now in
    let es = c.args.entries.now in
    c.in-Ok.ensures (store_in d es) (are-store ((g.H.Host.outside c.args.host.now).blocks c.args.unit) d es c.requires.kept c.requires.fits)

pub returns-in-Err : goal.returns-in-Err
returns-in-Err g c =
    let d = c.args.directory.now in
    let es = c.args.entries.now in
    c.in-Err.ensures (store_in d es) (are-store ((g.H.Host.outside c.args.host.now).blocks c.args.unit) d es c.requires.kept c.requires.fits)
