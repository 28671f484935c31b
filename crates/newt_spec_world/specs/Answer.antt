-- What the world answers: the first refusal that holds, or the fields of the reply. Replies are
-- this project's own.
use Rattle.std.specs.Prelude.{ℕ, List, [], ◌∷◌, map, length, Option, Some, None, option_map, option_and_then, unwrap_or}
use Rattle.newt_base.specs.Refusals.{first_of}
use Rattle.newt_base.specs.declared.Refusal.{Refusal}
use Rattle.newt_host.specs.Moments.{bytes_from}
use Rattle.newt_spec_query.specs.Hits.{Hit}
use Rattle.newt_spec_query.specs.Cursor.{Cursor, start, finish, on, hit_at}
use Rattle.newt_spec_world.specs.declared.command.Command.{Command}
use Rattle.newt_spec_world.specs.declared.command.Command.TheVariants as command
use Rattle.newt_spec_world.specs.Reply.{Reply}
use Rattle.newt_spec_world.specs.World.{World, default_unit, mounted, mounted_store, soup_in, entry_in, cursor, free_cursor, hits_of, settle}
use Rattle.newt_spec_graph.specs.Larges.{large_bytes}
use Rattle.newt_spec_world.specs.Changed.{changed}
use Rattle.newt_spec_world.specs.Refused.{checks}
use Rattle.newt_spec_world.specs.Alias.{Spot, alias_of, resolved}

-- ---- what a reply shows

-- the reply for what is there, else nil (a word of these definitions)
abbrev pub or_nil : {X : Type 0} → (X → Reply) → Option X → Reply
or_nil reply None = Reply.nil
or_nil reply (Some x) = reply x

-- where a hit's entry is (a word of these definitions)
abbrev pub spot_of : World → Hit → Option Spot
spot_of w h = resolved w (record { store = h.store; soup = h.soup; uid = h.uid })

-- the reply that shows an entry (this project's own)
abbrev pub shown : Spot → Reply
shown s = Reply.current s.unit s.entry.uid s.entry.time s.entry.graph

-- What a cursor shows: nil before and after all hits; the entry where it is on a hit; and else that
-- the entry is deleted. (Newton Programmer's Guide 2.0, cursors; the forms of the replies are this
-- project's own)
abbrev pub current : World → Cursor → Reply
current w k = elim k.place [
  | start ↦ Reply.nil
  | finish ↦ Reply.nil
  | on _ ↦ elim (option_and_then (spot_of w) (hit_at (hits_of w k.query) k.place)) [ Some s ↦ shown s | None ↦ Reply.deleted ]
]

-- the side of the hits on which a cursor stands: `begin`, `end`, or nil on a hit (this project's
-- own)
abbrev pub side : Cursor → Reply
side k = elim k.place [ start ↦ Reply.begin | finish ↦ Reply.«end» | on _ ↦ Reply.nil ]

-- the id that the next entry of a soup gets (a word of these definitions)
abbrev pub new_uid : World → ℕ → List ℕ → ℕ
new_uid w u name = unwrap_or (option_map (λ p. p.next_uid) (soup_in w u name)) 0

-- ---- the table: the fields of each command, from the world before it and the world after it

-- the table: the reply of each command that is not refused, from the world before it and the world
-- after it (this project's own)
unfoldable pub fields : World → World → Command → Reply
fields w v (command.Nsof g) = Reply.nsof_of g
fields w v (command.Lit g) = Reply.literal_of g
fields w v (command.Mount u) = or_nil (λ s. Reply.store s.sig s.name) (mounted_store v u)
fields w v command.Stores = Reply.stores (map (λ m. (m.0, m.1.sig, m.1.name)) (mounted w))
fields w v (command.Soup u s) = or_nil (λ t. Reply.number t.next_soup) (mounted_store w u)
fields w v (command.Soups u) = or_nil (λ t. Reply.soups (map (λ p. (p.name, p.sig, length p.entries)) t.soups)) (mounted_store w u)
fields w v (command.Indexes u s) = or_nil (λ p. Reply.indexes p.specs) (soup_in w u s)
fields w v (command.Tags u s) = or_nil (λ p. Reply.tags p.tags) (soup_in w u s)
fields w v (command.Info u s) = or_nil (λ p. or_nil Reply.literal_of p.info) (soup_in w u s)
fields w v (command.Add u s g) = Reply.number (new_uid w u s)
fields w v (command.Addx u s g) = Reply.number (new_uid w u s)
fields w v (command.Addu s g) = let u = default_unit w in Reply.added u (new_uid w u s)
fields w v (command.Get u s uid) = or_nil (λ e. Reply.timed e.time e.graph) (entry_in w u s uid)
fields w v (command.Getx u s uid) = or_nil (λ e. Reply.timed_nsof e.time e.graph) (entry_in w u s uid)
fields w v (command.Copy _ _ _ u s) = Reply.number (new_uid w u s)
fields w v (command.Move _ _ _ u s) = Reply.number (new_uid w u s)
fields w v (command.Vread u s uid path at len) = or_nil (λ e. Reply.hex (bytes_from at len (large_bytes e.graph path))) (entry_in w u s uid)
fields w v (command.Alias u s uid) = or_nil (λ t. or_nil (λ p. Reply.alias t.sig p.sig uid) (soup_in w u s)) (mounted_store w u)
fields w v (command.Resolve g) = or_nil (λ s. Reply.where_is s.unit s.soup.name s.entry.uid) (option_and_then (resolved w) (alias_of g))
fields w v (command.Query u s g) = or_nil Reply.number (free_cursor w)
fields w v (command.QueryAll s g) = or_nil Reply.number (free_cursor w)
fields w v (command.Entry c) = or_nil (current v) (cursor v c)
fields w v (command.Next c) = or_nil (current v) (cursor v c)
fields w v (command.Prev c) = or_nil (current v) (cursor v c)
fields w v (command.Reset c) = or_nil (current v) (cursor v c)
fields w v (command.End c) = or_nil (current v) (cursor v c)
fields w v (command.Moveby c k) = or_nil (current v) (cursor v c)
fields w v (command.Goto c u uid) = or_nil (current v) (cursor v c)
fields w v (command.Gotokey c g) = or_nil (current v) (cursor v c)
fields w v (command.Count c) = or_nil (λ k. Reply.number (length (hits_of w k.query))) (cursor w c)
fields w v (command.Which c) = or_nil side (cursor w c)
fields w v (command.Clone c) = or_nil Reply.number (free_cursor w)
fields w v _ = Reply.done

-- ---- one command, and a run of them

-- A command that is refused leaves the world as it is. Else the world is the changed one, with its
-- cursors settled. (this project's own)
abbrev pub answered : World → Command → Option Refusal → World × Reply
answered w c (Some refusal) = (w, Reply.refused refusal)
answered w c None = let v = settle (changed w c) in (v, fields w v c)

-- the world after a command, and its reply (this project's own)
unfoldable pub answer : World → Command → World × Reply
answer w c = answered w c (first_of (checks w c))

-- the world after commands one after another (a word of these definitions)
abbrev pub after : World → List Command → World
after w [] = w
after w (c ∷ cs) = after (answer w c).0 cs

-- their replies (a word of these definitions)
abbrev pub replies : World → List Command → List Reply
replies w [] = []
replies w (c ∷ cs) = let a = answer w c in a.1 ∷ replies a.0 cs
