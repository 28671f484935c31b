-- The reply to a command that is done is no refusal, and says of no device that it failed.
use Rattle.std.proofs.Common.{◌≡◌, refl, sym, ◌∙◌, ap, ℕ, Bool, true, false, map, length, Some, None, Option, option_and_then}
use Rattle.newt_base.specs.declared.Refusal.{Refusal}
use Rattle.newt_graph.specs.Graph.{RawGraph}
use Rattle.newt_host.specs.Moments.{bytes_from}
use Rattle.newt_spec_graph.specs.Larges.{large_bytes}
use Rattle.newt_spec_query.specs.Cursor.{Cursor, Place, start, finish, on, hit_at}
use Rattle.newt_spec_store.specs.Store.{Store, Soup, Entry}
use Rattle.newt_spec_world.specs.Alias.{Spot, alias_of, resolved}
use Rattle.newt_spec_world.specs.Answer.{current, fields, or_nil, shown, side, spot_of}
use Rattle.newt_spec_world.specs.Reply as plain
use Rattle.newt_spec_world.specs.World.{World, mounted_store, soup_in, entry_in, cursor, free_cursor, hits_of}
use Rattle.newt_spec_world.specs.declared.command.Command.{Command}
use Rattle.newt_spec_world.specs.declared.command.Command.TheVariants as command

-- the reply is a refusal, or says that a device failed
abbrev pub is_fault : plain.Reply → Bool
is_fault (plain.Reply.refused r) = true
is_fault (plain.Reply.thrown u) = true
is_fault reply = false

nil_good : {X : Type 0} (shown : X → plain.Reply) (o : Option X) → ((x : X) → is_fault (shown x) ≡ false) → is_fault (or_nil shown o) ≡ false
nil_good shown None good = refl
nil_good shown (Some x) good = good x

-- what a cursor shows is neither
current_good : (v : World) (k : Cursor) → is_fault (current v k) ≡ false
current_good v k = go k.place
  where
    spot : (o : Option Spot) → is_fault (elim o [ Some s ↦ shown s | None ↦ plain.Reply.deleted ]) ≡ false
    spot (Some s) = refl
    spot None = refl

    go : (place : Place) → is_fault (current v (record { query = k.query; place = place })) ≡ false
    go start = refl
    go finish = refl
    go (on at) = spot (option_and_then (spot_of v) (hit_at (hits_of v k.query) (on at)))

-- nor is a side
side_good : (k : Cursor) → is_fault (side k) ≡ false
side_good k = go k.place
  where
    go : (place : Place) → is_fault (elim place [ start ↦ plain.Reply.begin | finish ↦ plain.Reply.«end» | on _ ↦ plain.Reply.nil ]) ≡ false
    go start = refl
    go finish = refl
    go (on at) = refl

-- nor is the reply to a command that is done
pub fields_good : (w v : World) (c : Command) → is_fault (fields w v c) ≡ false
unfolding fields
fields_good w v (command.Nsof g) = refl
fields_good w v (command.Lit g) = refl
fields_good w v (command.Time t) = refl
fields_good w v command.Quit = refl
fields_good w v (command.Format u name sig) = refl
fields_good w v (command.Mount u) = nil_good {X = Store} (λ s. plain.Reply.store s.sig s.name) (mounted_store v u) (λ x. refl)
fields_good w v (command.Unmount u) = refl
fields_good w v command.Stores = refl
fields_good w v (command.Default u) = refl
fields_good w v (command.Soup u s) = nil_good {X = Store} (λ t. plain.Reply.number t.next_soup) (mounted_store w u) (λ x. refl)
fields_good w v (command.Soups u) = nil_good {X = Store} (λ t. plain.Reply.soups (map (λ p. (p.name, p.sig, length p.entries)) t.soups)) (mounted_store w u) (λ x. refl)
fields_good w v (command.Drop u s) = refl
fields_good w v (command.Add u s g) = refl
fields_good w v (command.Addx u s g) = refl
fields_good w v (command.Addu s g) = refl
fields_good w v (command.Index u s parts) = refl
fields_good w v (command.Unindex u s paths) = refl
fields_good w v (command.Indexes u s) = nil_good {X = Soup} (λ p. plain.Reply.indexes p.specs) (soup_in w u s) (λ x. refl)
fields_good w v (command.Tags u s) = nil_good {X = Soup} (λ p. plain.Reply.tags p.tags) (soup_in w u s) (λ x. refl)
fields_good w v (command.SetTags u s path symbols) = refl
fields_good w v (command.Info u s) = nil_good {X = Soup} (λ p. or_nil plain.Reply.literal_of p.info) (soup_in w u s) (λ p. nil_good {X = RawGraph} plain.Reply.literal_of p.info (λ g. refl))
fields_good w v (command.SetInfo u s g) = refl
fields_good w v (command.Get u s uid) = nil_good {X = Entry} (λ e. plain.Reply.timed e.time e.graph) (entry_in w u s uid) (λ x. refl)
fields_good w v (command.Getx u s uid) = nil_good {X = Entry} (λ e. plain.Reply.timed_nsof e.time e.graph) (entry_in w u s uid) (λ x. refl)
fields_good w v (command.Set u s uid path g) = refl
fields_good w v (command.Change u s uid g) = refl
fields_good w v (command.Remove u s uid) = refl
fields_good w v (command.Copy u s uid t p) = refl
fields_good w v (command.Move u s uid t p) = refl
fields_good w v (command.Vread u s uid path at len) = nil_good {X = Entry} (λ e. plain.Reply.hex (bytes_from at len (large_bytes e.graph path))) (entry_in w u s uid) (λ x. refl)
fields_good w v (command.Vwrite u s uid path at bytes) = refl
fields_good w v (command.Alias u s uid) = nil_good {X = Store} (λ t. or_nil (λ p. plain.Reply.alias t.sig p.sig uid) (soup_in w u s)) (mounted_store w u) (λ t. nil_good {X = Soup} (λ p. plain.Reply.alias t.sig p.sig uid) (soup_in w u s) (λ p. refl))
fields_good w v (command.Resolve g) = nil_good {X = Spot} (λ s. plain.Reply.where_is s.unit s.soup.name s.entry.uid) (option_and_then (resolved w) (alias_of g)) (λ x. refl)
fields_good w v (command.Query u s g) = nil_good {X = ℕ} (λ n. plain.Reply.number n) (free_cursor w) (λ x. refl)
fields_good w v (command.QueryAll s g) = nil_good {X = ℕ} (λ n. plain.Reply.number n) (free_cursor w) (λ x. refl)
fields_good w v (command.Entry c) = nil_good {X = Cursor} (current v) (cursor v c) (current_good v)
fields_good w v (command.Next c) = nil_good {X = Cursor} (current v) (cursor v c) (current_good v)
fields_good w v (command.Prev c) = nil_good {X = Cursor} (current v) (cursor v c) (current_good v)
fields_good w v (command.Reset c) = nil_good {X = Cursor} (current v) (cursor v c) (current_good v)
fields_good w v (command.End c) = nil_good {X = Cursor} (current v) (cursor v c) (current_good v)
fields_good w v (command.Moveby c n) = nil_good {X = Cursor} (current v) (cursor v c) (current_good v)
fields_good w v (command.Goto c u uid) = nil_good {X = Cursor} (current v) (cursor v c) (current_good v)
fields_good w v (command.Gotokey c g) = nil_good {X = Cursor} (current v) (cursor v c) (current_good v)
fields_good w v (command.Count c) = nil_good {X = Cursor} (λ k. plain.Reply.number (length (hits_of w k.query))) (cursor w c) (λ x. refl)
fields_good w v (command.Which c) = nil_good {X = Cursor} side (cursor w c) side_good
fields_good w v (command.Clone c) = nil_good {X = ℕ} (λ n. plain.Reply.number n) (free_cursor w) (λ x. refl)
fields_good w v (command.Close c) = refl
fields_good w v (command.Watch s most) = refl
fields_good w v (command.Notes n) = refl
fields_good w v (command.Unwatch n) = refl
fields_good w v (command.Open u s uid) = refl
fields_good w v (command.Draft n) = refl
fields_good w v (command.Edit n path g) = refl
fields_good w v (command.Save n) = refl
fields_good w v (command.Revert n) = refl
fields_good w v (command.Discard n) = refl
