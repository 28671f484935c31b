use Rattle.std.proofs.Common.{◌≡◌, ◌==◌, ℕ, List, ◌++◌, sym, ◌∙◌, ap, subst}
use Rattle.std.specs.List.Sorted.{IsStrictlySortedBy}
use Rattle.std.specs.Ordering.{nat_cmp}
use Rattle.std.specs.Set.{is_member}
use Rattle.newt_objects_commit.specs.Places.{uids_at}
use Rattle.newt_objects_commit.proofs.Listing.{listed-there, listed-rises}
use Rattle.newt_objects_commit.proofs.places.PlaceTable.uids_of.Goals as goal

pub returns-clause-there : goal.returns-clause-there
returns-clause-there c =
    let rows = c.args.self.now.rows in
    let is : c.list_uids.new.uids.items ≡ uids_at c.args.sig rows.entries = c.in_ok-list_uids.ensures.listed ∙ ap (λ (l : List ℕ). l ++ uids_at c.sig.inside.0 rows.entries) c.new-uids.ensures.items ∙ ap (λ (n : ℕ). uids_at n rows.entries) c.sig.view_is in
    λ uid. ap (λ (l : List ℕ). is_member (λ a b. a == b) l uid) is ∙ listed-there rows c.args.sig uid

pub returns-clause-rising : goal.returns-clause-rising
returns-clause-rising c =
    let rows = c.args.self.now.rows in
    let is : c.list_uids.new.uids.items ≡ uids_at c.args.sig rows.entries = c.in_ok-list_uids.ensures.listed ∙ ap (λ (l : List ℕ). l ++ uids_at c.sig.inside.0 rows.entries) c.new-uids.ensures.items ∙ ap (λ (n : ℕ). uids_at n rows.entries) c.sig.view_is in
    subst (λ (l : List ℕ). IsStrictlySortedBy nat_cmp l) (sym is) (listed-rises c.args.sig rows.entries c.list_uids.ensures.ordered)
