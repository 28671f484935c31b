-- What a run finds of the runs before it, where devices may fail and a crash may come at any
-- moment. All of it is this project's own.
use Rattle.std.specs.Prelude.{◌≡◌, ℕ, ◌<◌, ◌≤◌, List, ◌++◌, length, Option, Some}
use Rattle.newt_host.specs.Meanings.{left_since, out_of, since}
use Rattle.newt_host.specs.Outside.{Outside}
use Rattle.newt_laws_changes.specs.Later.{StoreLater}
use Rattle.newt_script_session.specs.Moments.{replies_begun}
use Rattle.newt_spec_graph.specs.Lists.{Among, Each}
use Rattle.newt_spec_script.specs.Rows.{Row}
use Rattle.newt_spec_store.specs.Store.{Entry, Soup, Store}
use Rattle.newt_spec_whole.specs.Whole.{Whole}
use Rattle.newt_spec_world.specs.World.{World, stores_on}

-- The image is read as a store, and that is a later state of one of these stores.
pub record ReadsLater (reads : List ℕ → Option Store) (before : List Store)
    (image : List ℕ) : Type 0 where
  pub found : Store
  pub read : reads image ≡ Some found
  pub was : Store
  pub among : Among before was
  pub later : StoreLater was found

-- At some moment of a run, since the attach of the unit, a crash might have left this image on it,
-- while this was the output.
pub record CrashedAt (old new : Outside) (unit : ℕ) (image shown : List ℕ) : Type 0 where
  pub start : ℕ
  pub attached : since new unit ≡ Some start
  pub left : left_since new start unit image (out_of old ++ shown)

-- The same, while at least k of the replies of the rows had begun.
pub record CrashedAfter (rows : List (Row Whole)) (old new : Outside) (k unit : ℕ)
    (image : List ℕ) : Type 0 where
  pub shown : List ℕ
  pub crashed : CrashedAt old new unit image shown
  pub begun : k ≤ replies_begun rows (length shown)

-- The signature of a soup and an id in it have been given in a store.
pub record IdGiven (sig uid : ℕ) (s : Store) : Type 0 where
  pub sig_given : sig < s.next_soup
  pub uid_given : (p : Soup) → Among s.soups p → p.sig ≡ sig → uid < p.next_uid

-- The unit has a store, or one of two, and in each that it may have they have been given.
pub record IdGivenOn (w : World) (u sig uid : ℕ) : Type 0 where
  pub some : (s : Store) × Among (stores_on w u) s
  pub given : Each (IdGiven sig uid) (stores_on w u)

-- A soup of this signature in the store has an entry of this id.
pub record HasEntry (sig uid : ℕ) (s : Store) : Type 0 where
  pub soup : Soup
  pub is_soup : Among s.soups soup
  pub sig_is : soup.sig ≡ sig
  pub entry : Entry
  pub is_entry : Among soup.entries entry
  pub uid_is : entry.uid ≡ uid
