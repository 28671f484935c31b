-- Where the entry of a copy is.
use Rattle.std.proofs.Common.{◌≡◌, refl, ap, sym, ◌∙◌, ℕ, List, [], ◌∷◌, Bool, true, false, Option, Some, None, drop}
use Rattle.std.specs.Prelude.{Ok, Err, is_none, slice_get}
use Rattle.newt_base.specs.Refusals.{Checks, first_of}
use Rattle.newt_base.specs.declared.Refusal.{Refusal}
use Rattle.newt_base.specs.declared.Refusal.TheVariants.{Copy as NoCopy, Entry as NoEntry}
use Rattle.newt_host.specs.Outside.{Outside}
use Rattle.newt_spec_store.specs.Store.{Store}
use Rattle.newt_spec_whole.specs.Whole as plain
use Rattle.newt_spec_whole.specs.Whole.{alias_of_copy, copy, living}
use Rattle.newt_spec_world.specs.Alias.{Spot, resolved}
use Rattle.newt_spec_world.specs.Refused.{no_entry, no_soup, no_unit, not_mounted, on_some}
use Rattle.newt_spec_world.specs.Reply as replies
use Rattle.newt_spec_world.specs.World.{entry_in, soup_in}
use Rattle.newt_work.specs.Work.{Copy, copy_at}
use Rattle.newt_laws_images.proofs.Chosen.{soup-good, there-entry, there-named}
use Rattle.newt_laws_world.specs.Named.{IsNamed}
use Rattle.newt_laws_world.proofs.Aliases.{named-by}
use Rattle.newt_laws_world.proofs.Units.{entry-has, has-mounted, soup-has}
use Rattle.newt_laws_whole.specs.Runs.{AllFormed}
use Rattle.newt_laws_whole.proofs.Reading.{entry_tests}
use Rattle.newt_laws_whole.proofs.Saving.{row-none}
use Rattle.newt_engine_units.specs.Spots.{spot_reply}
use Rattle.newt_engine_units.specs.Stands.{world_of}
use Rattle.newt_engine_units.proofs.Known.{Laws}
use Rattle.newt_engine_whole.specs.Copies.{FindsLiving, IsAt}
use Rattle.newt_engine_whole.specs.Standing.{Means, Standing}
use Rattle.newt_engine_whole.specs.declared.whole.Whole.{Whole}
use Rattle.newt_engine_whole.proofs.Meant.{resolved-same}

-- ---- the entry is there to be read

module _ (h : plain.Whole) (formed : AllFormed h.world) (k : Copy) (s : Spot) (lives : living h k ≡ Some s) where
  pub named : IsNamed h.world (alias_of_copy k) s
  named = named-by h.world (alias_of_copy k) s lives

  pub soup-there : soup_in h.world s.unit s.soup.name ≡ Some s.soup
  soup-there = soup-has h.world s.unit named.on s.soup.name named.mounted_there ∙ there-named named.on s.soup (formed s.unit named.on named.mounted_there) named.is_soup

  pub entry-there : entry_in h.world s.unit s.soup.name s.entry.uid ≡ Some s.entry
  entry-there = entry-has h.world s.unit s.soup s.soup.name s.entry.uid soup-there
      ∙ there-entry s.soup s.entry (soup-good named.on s.soup (formed s.unit named.on named.mounted_there) named.is_soup) named.is_entry

  pub entry-passes : first_of (entry_tests h.world s.unit s.soup.name s.entry.uid) ≡ None
  entry-passes =
      row-none (no_unit h.world s.unit).0 _ (rest 1) (ap is_none (has-mounted h.world s.unit named.on named.mounted_there).1.is)
      (row-none (not_mounted h.world s.unit).0 _ (rest 2) (ap is_none named.mounted_there)
      (row-none (no_soup h.world s.unit s.soup.name).0 _ (rest 3) (ap is_none soup-there)
      (row-none (no_entry h.world s.unit s.soup.name s.entry.uid).0 _ [] (ap is_none entry-there) refl)))
    where
      rest : ℕ → Checks
      rest i = drop i (entry_tests h.world s.unit s.soup.name s.entry.uid)

-- ---- it is found, or it is not

module _ {C : Type 0} {reads : List ℕ → Option Store} {place : C → ℕ} {soups : C → Store} {stands : Bool → C → Outside → Type 0} (laws : Laws reads place soups stands) (it : Whole C) (o : Outside)
    (s : Standing reads place stands true it o) (h : plain.Whole) (m : Means reads it o h) (n : ℕ) where
  at-copies : copy_at n it.works ≡ copy h n
  at-copies = ap (copy_at n) m.copies

  living-same : (k : Copy) → living h k ≡ resolved (world_of reads it.world.units o) (alias_of_copy k)
  living-same k = resolved-same laws it.world.units it.world.desk o s.world h.world m.world (alias_of_copy k)

  pub living-none : copy_at n it.works ≡ None → FindsLiving h n (Err NoCopy)
  living-none lacks = ap {A = Option Copy} (λ o. first_of ((NoCopy, is_none o) ∷ (NoEntry, on_some o (λ k. is_none (living h k))) ∷ [])) (sym at-copies ∙ lacks)

  module _ (k : Copy) (there : Some k ≡ copy_at n it.works) where
    here : copy h n ≡ Some k
    here = sym at-copies ∙ sym there

    pub living-gone : replies.Reply.nil ≡ spot_reply (resolved (world_of reads it.world.units o) (alias_of_copy k)) → FindsLiving h n (Err NoEntry)
    living-gone is =
        ap {A = Option Copy} (λ o. first_of ((NoCopy, is_none o) ∷ (NoEntry, on_some o (λ k. is_none (living h k))) ∷ [])) here
        ∙ ap {A = Option Spot} (λ o. first_of ((NoCopy, false) ∷ (NoEntry, is_none o) ∷ [])) (living-same k ∙ gone (resolved (world_of reads it.world.units o) (alias_of_copy k)) is)
      where
        gone : (o : Option Spot) → replies.Reply.nil ≡ spot_reply o → o ≡ None
        gone None e = refl
        gone (Some x) e = cc

    pub living-at : (u uid : ℕ) (name : List ℕ) → replies.Reply.where_is u name uid ≡ spot_reply (resolved (world_of reads it.world.units o) (alias_of_copy k))
        → FindsLiving h n (Ok (record { unit = u; name = name; soup = k.soup; uid = uid }))
    living-at u uid name is = go (resolved (world_of reads it.world.units o) (alias_of_copy k)) refl is
      where
        go : (f : Option Spot) → resolved (world_of reads it.world.units o) (alias_of_copy k) ≡ f → replies.Reply.where_is u name uid ≡ spot_reply f → IsAt h n (record { unit = u; name = name; soup = k.soup; uid = uid })
        go None e says = cc
        go (Some x) e says =
            let lives = living-same k ∙ e in record {
              of = k;
              there = here;
              spot = x;
              lives = lives;
              unit = cc;
              name = cc;
              soup = sym (named-by h.world (alias_of_copy k) x lives).soup_is;
              uid = cc;
            }
