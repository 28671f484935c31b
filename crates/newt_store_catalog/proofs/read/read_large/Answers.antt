use Rattle.std.proofs.Common.{ℕ, sym, length}
use Rattle.std.proofs.lemmas.Result.{IfOk-weaker}
use Rattle.newt_objects.specs.Held.{held}
use Rattle.newt_store_catalog.proofs.Exits.{of-reading}
use Rattle.newt_store_catalog.proofs.Lying.{long-there, long-read}
use Rattle.newt_store_catalog.proofs.Rows.{read-is, read-costs}
use Rattle.newt_store_catalog.proofs.Sizes.{long-size, size-costs}
use Rattle.newt_store_catalog.proofs.read.read_large.Goals as goal

pub read-requires-clause-there : goal.read-requires-clause-there
read-requires-clause-there g c = long-there (held c.args.objects.now c.args.large.now.object) c.args.large.now.length c.requires.there

pub returns : goal.returns
returns g c =
    let o = g.H.Host.outside in
    let u : ℕ = g.P.PageBook.place c.args.book.now in
    let numbers = g.P.PageBook.numbers c.args.book.now in
    let objects = c.args.objects.now in
    let object : ℕ = c.args.large.now.object in
    let kept = c.requires.can.kept in
    record {
      length = IfOk-weaker c.read.result _ _ (λ bytes size. long-read (held objects object) c.args.large.now.length (length bytes.items) c.requires.there size) c.read.ensures.size;
      bytes = λ tells texts b holds at. record {
        bytes_are = IfOk-weaker c.read.result _ _ (λ bytes read. sym (read-is g.H.Host.told objects numbers u (o c.args.host.now) kept tells texts holds object b at bytes.items (read tells))) c.read.ensures.bytes;
        costs = read-costs g.H.Host.told objects numbers u (o c.args.host.now) kept tells texts holds object b at (o c.args.host.now) (o c.read.new.host) c.read.ensures.costs;
      };
      pages =
          let size : ℕ = c.args.large.now.length in
          size-costs kept object (long-there (held objects object) size c.requires.there)
          c.read.ensures.costs size (long-size (held objects object) size c.requires.there);
      reads = of-reading kept c.read.ensures.reads;
    }
