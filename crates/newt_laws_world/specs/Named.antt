-- What an alias names.
use Rattle.std.specs.Prelude.{◌≡◌, Some}
use Rattle.newt_spec_store.specs.Store.{Store}
use Rattle.newt_spec_world.specs.World.{World, mounted_store}
use Rattle.newt_spec_world.specs.Alias.{Alias, Spot}
use Rattle.newt_spec_graph.specs.Lists.{Among}

-- the spot has the entry of the alias's id, in the soup and the mounted store of its signatures
pub record IsNamed (w : World) (a : Alias) (spot : Spot) : Type 0 where
  pub on : Store
  pub mounted_there : mounted_store w spot.unit ≡ Some on
  pub sig_is : on.sig ≡ a.store
  pub is_soup : Among on.soups spot.soup
  pub soup_is : spot.soup.sig ≡ a.soup
  pub is_entry : Among spot.soup.entries spot.entry
  pub uid_is : spot.entry.uid ≡ a.uid
