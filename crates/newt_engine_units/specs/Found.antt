-- What is found of an entry.
use Rattle.std.specs.Prelude.{◌≡◌, ℕ, true, List, Some, Result, Ok, Err}
use Rattle.newt_spec_store.specs.Store.{Store, Soup, Entry, soup_named, entry_of, soup_of}
use Rattle.newt_spec_store.specs.Valid.{well_formed}
use Rattle.newt_spec_world.specs.World.{World}
use Rattle.newt_laws_answers.specs.Tests.{entry_checks}
use Rattle.newt_laws_answers.specs.There.{OnUnit}
use Rattle.newt_store_change.specs.declared.fault.StoreFault.{StoreFault}
use Rattle.newt_store_change.specs.Faults.{RefusesBy}

-- A soup of a mounted store, by its name and by its signature. The store is one that is read.
pub record HasSoup (w : World) (u : ℕ) (name : List ℕ) (sig : ℕ) : Type 0 where
  pub blocks : ℕ
  pub store : Store
  pub on : OnUnit w u blocks store
  pub soup : Soup
  pub named : soup_named name store ≡ Some soup
  pub self_named : soup_named soup.name store ≡ Some soup
  pub sig_is : soup.sig ≡ sig
  pub by_sig : soup_of sig store ≡ Some soup
  pub name_is : soup.name ≡ name
  pub formed : well_formed store ≡ true

-- an entry of such a soup
pub record HasEntry (w : World) (u : ℕ) (name : List ℕ) (sig uid : ℕ) : Type 0 where
  pub of : HasSoup w u name sig
  pub entry : Entry
  pub found : entry_of uid of.soup ≡ Some entry

-- the signature of a soup that has the entry, or the first that is not there
abbrev pub FindsEntry : World → ℕ → List ℕ → ℕ → Result ℕ StoreFault → Type 0
FindsEntry w u name uid (Ok sig) = HasEntry w u name sig uid
FindsEntry w u name uid (Err fault) = RefusesBy (entry_checks w u name uid) fault
