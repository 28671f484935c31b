use Rattle.std.proofs.Common.{◌≡◌, ◌++◌, ℕ, List, IsTrue, length, map as map_list}
use Rattle.newt_host.specs.Moments.{image}
use Rattle.newt_host.specs.Outside.{NoFault}
use Rattle.newt_spec_image.specs.Objects.{Objects}
use Rattle.newt_objects.specs.Changing.{HoldsObjects}
use Rattle.newt_store_catalog.specs.Calls.{AreThere}
use Rattle.newt_store_catalog.specs.Reading.{HaveBytes, ReadsOf}
use Rattle.newt_store_catalog.proofs.ReadLarges.{WentOn}
use Rattle.newt_store_catalog.proofs.Sizes.{Spent}
use Rattle.newt_store_catalog.proofs.read.read_larges.Given as goal

abbrev pub invariant-loop-left : goal.invariant-loop-left
invariant-loop-left g l =
    let outside = g.H.Host.outside in let place = g.P.PageBook.place in
    record {
      reads : ReadsOf place g.P.PageBook.numbers g.P.PageBook.stands g.H.Host.told l.objects l.fn.book l.book (outside l.fn.host) (outside l.host);
      no_fault : NoFault (outside l.fn.host) (outside l.host);
      there : AreThere l.objects l.left;
      spent : Spent l.rows l.left (place l.fn.book) (outside l.fn.host) (outside l.host);
      lengths : map_list (λ bytes. length bytes.items) l.larges.items ++ map_list (λ row. row.length) l.left ≡ map_list (λ row. row.length) l.rows;
      larges : IsTrue g.H.Host.told → (texts : Objects) (bs : List (List ℕ)) → HoldsObjects (image (place l.fn.book) (outside l.fn.host).now) texts → HaveBytes texts l.rows bs
          → WentOn texts l.left bs (map_list (λ bytes. bytes.items) l.larges.items) (place l.fn.book) (outside l.fn.host) (outside l.host);
    }

abbrev pub decreases-loop-left : goal.decreases-loop-left
decreases-loop-left g l = length l.left
