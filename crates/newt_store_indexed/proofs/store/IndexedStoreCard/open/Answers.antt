-- The store is opened, and its entries are listed as they are told.
use Rattle.std.proofs.Common.{◌≡◌, ℕ, List, Err, sym, ◌∙◌, subst, ap}
use Rattle.std.proofs.lemmas.Result.{err_from_is_err_and}
use Rattle.std.specs.Prelude.{Result}
use Rattle.newt_host.specs.Moments.{image}
use Rattle.newt_pagebook.specs.declared.book.BookFault.{BookFault}
use Rattle.newt_pagebook.specs.declared.book.BookFault.TheVariants.{NotStore, Device}
use Rattle.newt_store_catalog.specs.Readable.{readable}
use Rattle.newt_store_catalog.specs.Stands.{StandsFor}
use Rattle.newt_store_catalog.proofs.Opening.{same-image}
use Rattle.newt_store_catalog.proofs.Exits.{blames-is}
use Rattle.newt_store.specs.declared.store.Store.{Store}
use Rattle.newt_engine_card.specs.Calls.{Opens}
use Rattle.newt_store_indexed.specs.Stands.{StandsOn}
use Rattle.newt_store_indexed.specs.declared.listing.Listing.{Listing}
use Rattle.newt_store_indexed.specs.declared.store.IndexedStore.{IndexedStore}
use Rattle.newt_store_indexed.proofs.Listed.{all-listed}
use Rattle.newt_store_indexed.proofs.Opened.{never-ok, same-fault}
use Rattle.newt_store_indexed.proofs.store.IndexedStoreCard.open.Goals as goal

pub returns-in_err-store : goal.returns-in_err-store
returns-in_err-store g c =
    let o = g.H.Host.outside in
    let e = c.in_err-store.ensures.opens in
    let f : BookFault = c.in_err-store.field-0.0 in
    let p = err_from_is_err_and c.from_residual.result c.from_residual.ensures.1 in
    let Card : Type 0 = IndexedStore g.row.P.Denot in
    subst (λ (x : Result Card BookFault). Opens readable (λ card. g.P.PageBook.place card.store.book) (λ told card outside. StandsOn g.P.PageBook.place g.P.PageBook.numbers g.P.PageBook.stands told card outside)
    g.H.Host.told c.args.unit (o c.args.host.now) (o c.open_with.new.host) x) (sym (p.1 ∙ ap {B = Result Card BookFault} (λ x. Err x) p.2)) (record {
      stands = tt;
      place_is = tt;
      not_store = λ is tells. e.ends.not_store (same-fault f NotStore is) tells;
      looks = e.looks;
      cause = λ is. e.ends.cause (same-fault f Device is);
      no_fault = λ opening. e.ends.no_fault (blames-is (Store g.row.P.Denot × Listing) Card f opening);
    })

pub returns : goal.returns
returns g c =
    let o = g.H.Host.outside in
    let place = g.P.PageBook.place in
    let e = c.in_ok-store.ensures.opens in
    let b = c.in_ok-store.store in
    let there : image (place b.book) (o c.open_with.new.host).now ≡ image c.args.unit (o c.args.host.now).now = same-image c.args.unit (place b.book) (o c.args.host.now).now (o c.open_with.new.host).now e.place_is e.looks.moment in
    record {
      stands = record {
        is_open = e.is_open;
        plain = λ tells.
            let f = e.found tells in
            record {
              plain = f.0;
              stands = subst (λ (img : List ℕ). StandsFor b.catalog f.0 img) (sym there) f.2;
              ranges = all-listed (λ (l : Listing). l.ranges) f.0 c.in_ok-store.listing f.2.describes.formed (c.in_ok-store.ensures.gathered tells f.0 f.2);
            };
      };
      place_is = e.place_is;
      not_store = λ is. never-ok _ _ is;
      looks = e.looks;
      cause = λ is. never-ok _ _ is;
      no_fault = λ opening. e.ends.no_fault tt;
    }
