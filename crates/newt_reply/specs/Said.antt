-- How the definition sees the replies of the code.
use Rattle.std.specs.Prelude.{ℕ, List, map}
use Rattle.newt_spec_world.specs.Reply as world
use Rattle.newt_reply.specs.declared.reply.Reply.{Reply}
use Rattle.newt_reply.specs.declared.reply.Reply.TheVariants.{Done, Number, Added, Store, Stores, Soups, Indexes, Tags, Hex, Nsof, Literal, Timed, TimedNsof, Alias, Where, Current, Deleted, Nil, Begin, End, Notes, Changed, Refused, Thrown}
use Rattle.newt_reply.specs.declared.rows.StoreLine.{StoreLine}
use Rattle.newt_reply.specs.declared.rows.SoupLine.{SoupLine}

-- a mounted store: its unit, its signature and its name
abbrev pub store_row : StoreLine → ℕ × ℕ × List ℕ
store_row line = (line.unit, line.sig, line.name)

-- a soup: its name, its signature and how many entries it has
abbrev pub soup_row : SoupLine → List ℕ × ℕ × ℕ
soup_row line = (line.name, line.sig, line.count)

-- a reply of the code, as the definition has it
abbrev pub said : Reply → world.Reply
said Done = world.done
said (Number n) = world.number n
said (Added unit uid) = world.added unit uid
said (Store sig name) = world.store sig name
said (Stores lines) = world.stores (map store_row lines)
said (Soups lines) = world.soups (map soup_row lines)
said (Indexes specs) = world.indexes specs
said (Tags row) = world.tags row.table
said (Hex bytes) = world.hex bytes
said (Nsof graph) = world.nsof_of graph
said (Literal graph) = world.literal_of graph
said (Timed time graph) = world.timed time graph
said (TimedNsof time graph) = world.timed_nsof time graph
said (Alias a) = world.alias a.store a.soup a.uid
said (Where unit name uid) = world.where_is unit name uid
said (Current unit uid time graph) = world.current unit uid time graph
said Deleted = world.deleted
said Nil = world.nil
said Begin = world.begin
said End = world.«end»
said (Notes notes) = world.notes notes.lost notes.list
said (Changed time) = world.changed time
said (Refused refusal) = world.refused refusal
said (Thrown unit) = world.thrown unit
