-- The worlds of the runs of scripts are sound, and aliases in them.
use Rattle.std.proofs.Common.{ℕ, ◌≡◌, ◌≤◌, inl, refl, sym, ◌∙◌, ap, subst, true, false, Bool, IsTrue, List, [], ◌∷◌, ◌++◌, length, Option, Some, None}
use Rattle.std.specs.Prelude.{Result, Ok, Err, option_and_then, option_map, unwrap_or, ◌==◌}
use Rattle.newt_host.specs.Meanings.{held}
use Rattle.newt_graph.specs.Graph.{RawGraph}
use Rattle.newt_host.specs.Outside.{Outside}
use Rattle.newt_laws_scripts.specs.Crashed.{CrashedAfter, HasEntry, IdGiven, IdGivenOn, ReadsLater}
use Rattle.newt_laws_scripts.proofs.Outliving.{given-there, ids-later, mounted-only, next-later, resolves-later, run-left}
use Rattle.newt_laws_steps.specs.Steps.{StoresLater}
use Rattle.newt_laws_whole.specs.Runs.{IsSound}
use Rattle.newt_laws_whole.proofs.Sound.{between-later, first-sound, sound-formed, sound-run}
use Rattle.newt_base.specs.Names.{equal_text}
use Rattle.newt_base.specs.Refusals.{first_of}
use Rattle.newt_base.specs.declared.Refusal.{Refusal}
use Rattle.std.proofs.lemmas.Bool.{eqb-true}
use Rattle.newt_laws_whole.proofs.Asking.{plain-step}
use Rattle.newt_laws_whole.proofs.Telling.{mounted-change}
use Rattle.newt_laws_images.proofs.Chosen.{first-among}
use Rattle.newt_laws_world.specs.Named.{IsNamed}
use Rattle.newt_laws_world.proofs.Kept.{all-false, not-none}
use Rattle.newt_laws_world.proofs.Settled.{find-passes}
use Rattle.newt_laws_world.proofs.Aliases.{named-by}
use Rattle.newt_laws_world.specs.Scripts.{ItemHasForm}
use Rattle.newt_laws_world.specs.Worlds.{is_plain}
use Rattle.newt_script.specs.Lines.{line_command}
use Rattle.newt_script.specs.declared.fault.LineFault.{LineFault}
use Rattle.newt_script.specs.declared.fault.LineFault.TheVariants as faults
use Rattle.newt_script.proofs.Forms.{has_its_form}
use Rattle.newt_script_session.specs.Answered.{Given}
use Rattle.newt_script_session.specs.Lines.{lines_of}
use Rattle.newt_script_session.specs.Named.{CountedNamed, RanNamed, first_world, held_by}
use Rattle.newt_script_session.specs.Script.{commands_of, given, items_of, script_items}
use Rattle.newt_script_session.specs.declared.halt.Halt.{Halt}
use Rattle.newt_script_session.proofs.Spelling.{script_items_are}
use Rattle.newt_spec_graph.specs.Lists.{Among, Each}
use Rattle.newt_spec_graph.proofs.Lists.{among-right, each-append, none-some}
use Rattle.newt_spec_script.specs.Rows.{IsRun, Row, world_at}
use Rattle.newt_spec_script.specs.Script.{Item, is_quit, up_to_quit}
use Rattle.newt_spec_store.specs.OfImage.{blocks_of}
use Rattle.newt_spec_store.specs.Store.{Entry, Soup, Store, add_entry, change_soup, entry_of, soup_named}
use Rattle.newt_spec_store.specs.Valid.{valid}
use Rattle.newt_spec_whole.specs.Step.{WholeStep}
use Rattle.newt_spec_whole.specs.Whole.{Whole, stores_on}
use Rattle.newt_spec_world.specs.Alias.{Alias, Spot, resolved}
use Rattle.newt_spec_world.specs.Answer.{answer, answered, fields, or_nil}
use Rattle.newt_spec_world.specs.Changed.{changed}
use Rattle.newt_spec_world.specs.Refused.{checks}
use Rattle.newt_spec_world.specs.Reply.{Reply}
use Rattle.newt_spec_world.specs.Step.{Step, plain, found, thrown, halfway}
use Rattle.newt_spec_world.specs.World as worlds
use Rattle.newt_spec_world.specs.World.{World, entry_in, mounted_store, settle, soup_in}
use Rattle.newt_spec_world.specs.declared.command.Command.{Command}
use Rattle.newt_spec_world.specs.declared.command.Command.TheVariants as command

-- ---- the items of a script have the forms of their words

line-form : (line : List ℕ) → Each ItemHasForm (given (line_command line))
line-form line = go (line_command line) refl
  where
    go : (r : Result (Option Command) LineFault) → line_command line ≡ r → Each ItemHasForm (given r)
    go (Ok None) e = tt
    go (Ok (Some c)) e = (has_its_form line c e, tt)
    go (Err (faults.Refused r)) e = (tt, tt)
    go (Err faults.Memory) e = tt

lines-form : (lines : List (List ℕ)) → Each ItemHasForm (items_of lines)
lines-form [] = tt
lines-form (l ∷ ls) = each-append ItemHasForm (given (line_command l)) (items_of ls) (line-form l) (lines-form ls)

quit-form : (items : List Item) → Each ItemHasForm items → Each ItemHasForm (up_to_quit items)
quit-form [] all = tt
quit-form (x ∷ xs) all = go (is_quit x) (quit-form xs all.1)
  where
    go : (b : Bool) → Each ItemHasForm (up_to_quit xs) → Each ItemHasForm (let l : List Item = elim b [ true ↦ x ∷ [] | false ↦ x ∷ up_to_quit xs ] in l)
    go true more = (all.0, tt)
    go false more = (all.0, more)

pub script-form : (script : List ℕ) → Each ItemHasForm (script_items script)
unfolding commands_of
script-form script = subst (Each ItemHasForm) (script_items_are script) (quit-form (items_of (lines_of script)) (lines-form (lines_of script)))

first-form : (xs ys : List Item) → Each ItemHasForm (xs ++ ys) → Each ItemHasForm xs
first-form [] ys all = tt
first-form (x ∷ xs) ys all = (all.0, first-form xs ys all.1)

given-form : (h : Whole) (script : List ℕ) (g : Given WholeStep h (script_items script)) → Each ItemHasForm g.first
given-form h script g = first-form g.first g.rest (subst (Each ItemHasForm) g.split (script-form script))

-- ---- the worlds are sound

module _ (reads : List ℕ → Option Store) (good : (image : List ℕ) (s : Store) → reads image ≡ Some s → IsTrue (valid (blocks_of image) s)) where
  pub given-sound : (names : List (List ℕ)) (old : Outside) (script : List ℕ) (g : Given WholeStep (first_world reads names old) (script_items script)) (k : ℕ)
      → IsSound (world_at (first_world reads names old) g.rows k)
  given-sound names old script g k =
      sound-run (first_world reads names old) g.first g.rows k (first-sound reads (held old) names good) (given-form (first_world reads names old) script g) g.run

  pub ran-sound : (limit : ℕ) (result : Result (Unit {0}) Halt) (names : List (List ℕ)) (old new : Outside) (ran : RanNamed WholeStep reads limit result names old new) (k : ℕ)
      → IsSound (world_at (first_world reads names old) ran.played.given.rows k)
  ran-sound limit result names old new ran k = given-sound names old old.input ran.played.given k

  pub counted-sound : (script : List ℕ) (result : Result (Unit {0}) Halt) (names : List (List ℕ)) (old new : Outside) (ran : CountedNamed WholeStep reads script result names old new) (k : ℕ)
      → IsSound (world_at (first_world reads names old) ran.given.rows k)
  counted-sound script result names old new ran k = given-sound names old script ran.given k

-- ---- an alias that resolves has been given its id

-- of an entry in a mounted store the id is given in all that its unit may have
pub mounted-given : (h : Whole) (u : ℕ) (t : Store) (sig uid : ℕ) → IsSound h → mounted_store h.world u ≡ Some t → HasEntry sig uid t → IdGivenOn h.world u sig uid
mounted-given h u t sig uid sound on has = record {
  some = (t, subst (λ (ss : List Store). Among ss t) (sym only) (inl refl));
  given = subst (Each (IdGiven sig uid)) (sym only) (given-there t sig uid (sound-formed h sound u t on) has, tt);
}
  where
    only : worlds.stores_on h.world u ≡ t ∷ []
    only = mounted-only h.world u t on

pub resolved-given : (h : Whole) (a : Alias) (spot : Spot) → IsSound h → resolved h.world a ≡ Some spot → IdGivenOn h.world spot.unit a.soup a.uid
resolved-given h a spot sound is =
    let n : IsNamed h.world a spot = named-by h.world a spot is in
    mounted-given h spot.unit n.on a.soup a.uid sound n.mounted_there
    (record { soup = spot.soup; is_soup = n.is_soup; sig_is = n.soup_is; entry = spot.entry; is_entry = n.is_entry; uid_is = n.uid_is })

-- ---- an alias that is replied

module _ (h : Whole) (u : ℕ) (name : List ℕ) (uid store soup id : ℕ) (sound : IsSound h) where
  abbrev ask : Command
  ask = command.Alias u name uid

  -- what the reply is of
  record Told : Type 0 where
    t : Store
    on : mounted_store h.world u ≡ Some t
    p : Soup
    named : soup_named name t ≡ Some p
    sig_is : p.sig ≡ soup
    e : Entry
    found : entry_of uid p ≡ Some e
    uid_is : uid ≡ id

  told : first_of (checks h.world ask) ≡ None → fields h.world (settle (changed h.world ask)) ask ≡ Reply.alias store soup id → Told
  unfolding checks fields
  told ok is = in-store (mounted_store h.world u) refl is
    where
      entry : (e : Entry) × (entry_in h.world u name uid ≡ Some e)
      entry = not-none (entry_in h.world u name uid) (all-false (checks h.world ask) ok).1.1.1.0

      parts : (a b c : ℕ) → Reply.alias a b c ≡ Reply.alias store soup id → (b ≡ soup) × (c ≡ id)
      parts a b c e = (ap second e, ap third e)
        where
          second : Reply → ℕ
          second (Reply.alias a b c) = b
          second r = 0

          third : Reply → ℕ
          third (Reply.alias a b c) = c
          third r = 0

      in-soup : (t : Store) → mounted_store h.world u ≡ Some t → (o : Option Soup) → soup_named name t ≡ o → or_nil (λ (p : Soup). Reply.alias t.sig p.sig uid) o ≡ Reply.alias store soup id
          → option_and_then (entry_of uid) o ≡ Some entry.0 → Told
      in-soup t on None f k e = absurd (cc)
      in-soup t on (Some p) f k e = let q = parts t.sig p.sig uid k in record { t = t; on = on; p = p; named = f; sig_is = q.0; e = entry.0; found = e; uid_is = q.1 }

      in-store : (o : Option Store) → mounted_store h.world u ≡ o → or_nil (λ (t : Store). or_nil (λ (p : Soup). Reply.alias t.sig p.sig uid) (soup_in h.world u name)) o ≡ Reply.alias store soup id → Told
      in-store None f k = absurd (cc)
      in-store (Some t) f k =
          let same : soup_in h.world u name ≡ soup_named name t = ap (option_and_then (soup_named name)) f in
          in-soup t f (soup_named name t) refl (ap (or_nil (λ (p : Soup). Reply.alias t.sig p.sig uid)) (sym same) ∙ k)
          (ap (option_and_then (entry_of uid)) (sym same) ∙ entry.1)

  told-given : Told → IdGivenOn h.world u soup id
  told-given t = mounted-given h u t.t soup id sound t.on (record {
    soup = t.p;
    is_soup = (find-passes (λ (p : Soup). equal_text p.name name) t.t.soups t.p t.named).1;
    sig_is = t.sig_is;
    entry = t.e;
    is_entry = (find-passes (λ (e : Entry). e.uid == uid) t.p.entries t.e t.found).1;
    uid_is = eqb-true t.e.uid uid (find-passes (λ (e : Entry). e.uid == uid) t.p.entries t.e t.found).0 ∙ t.uid_is;
  })

  answered-given : (v : World) → answer h.world ask ≡ (v, Reply.alias store soup id) → IdGivenOn v u soup id
  unfolding answer changed
  answered-given v is = go (first_of (checks h.world ask)) refl is
    where
      go : (o : Option Refusal) → first_of (checks h.world ask) ≡ o → answered h.world ask o ≡ (v, Reply.alias store soup id) → IdGivenOn v u soup id
      go (Some r) e is = absurd (refused (ap (λ (x : World × Reply). x.1) is))
        where
          refused : Reply.refused r ≡ Reply.alias store soup id → ⊥
          refused e = cc
      go None e is =
          let g = told-given (told e (ap (λ (x : World × Reply). x.1) is)) in
          let same : worlds.stores_on v u ≡ worlds.stores_on h.world u = ap (λ (x : World × Reply). worlds.stores_on x.0 u) (sym is) in
          record {
            some = (g.some.0, subst (λ (ss : List Store). Among ss g.some.0) (sym same) g.some.1);
            given = subst (Each (IdGiven soup id)) (sym same) g.given;
          }

  pub alias-given : (v : Whole) → WholeStep h ask v (Reply.alias store soup id) → IdGivenOn v.world u soup id
  unfolding is_plain
  alias-given v s = go (plain-step h ask v (Reply.alias store soup id) refl s)
    where
      thrown-not : (x : ℕ) → Reply.alias store soup id ≡ Reply.thrown x → ⊥
      thrown-not x e = cc

      go : Step h.world ask v.world (Reply.alias store soup id) → IdGivenOn v.world u soup id
      go (plain none is) = answered-given v.world is
      go (found {u = x} looks has is) = absurd (none-some x looks)
      go (thrown {u = x} next is) = absurd (thrown-not x is)
      go (halfway {u = x} moves ok next is) = absurd (thrown-not x is)

-- ---- an add that is answered

module _ (h : Whole) (u : ℕ) (name : List ℕ) (g : RawGraph) (id : ℕ) where
  abbrev adds : Command
  adds = command.Add u name g

  -- the entry is in the store after it
  record Added (v : World) : Type 0 where
    p : Soup
    named : soup_in h.world u name ≡ Some p
    t : Store
    on : mounted_store v u ≡ Some t
    has : HasEntry p.sig id t

  added-in : (v : World) → answer h.world adds ≡ (v, Reply.number id) → Added v
  unfolding answer changed checks fields
  added-in v is = go (first_of (checks h.world adds)) refl is
    where
      number : Reply → ℕ
      number (Reply.number n) = n
      number r = 0

      go : (o : Option Refusal) → first_of (checks h.world adds) ≡ o → answered h.world adds o ≡ (v, Reply.number id) → Added v
      go (Some r) e is = absurd (refused (ap (λ (x : World × Reply). x.1) is))
        where
          refused : Reply.refused r ≡ Reply.number id → ⊥
          refused e = cc
      go None e is =
          let passed = all-false (checks h.world adds) e in
          let t = not-none (mounted_store h.world u) passed.1.0 in
          let p = not-none (soup_in h.world u name) passed.1.1.0 in
          let found : soup_named name t.0 ≡ Some p.0 = sym (ap (option_and_then (soup_named name)) t.1) ∙ p.1 in
          let more : Soup → Soup = add_entry h.world.minute g in
          record {
            p = p.0;
            named = p.1;
            t = change_soup name more t.0;
            on = ap (λ (x : World × Reply). mounted_store x.0 u) (sym is) ∙ mounted-change h.world u (change_soup name more) t.0 t.1;
            has = record {
              soup = more p.0;
              is_soup = first-among (λ (q : Soup). equal_text q.name name) more t.0.soups p.0 found;
              sig_is = refl;
              entry = record { uid = p.0.next_uid; time = h.world.minute; graph = g };
              is_entry = among-right p.0.entries (record { uid = p.0.next_uid; time = h.world.minute; graph = g } ∷ []) (record { uid = p.0.next_uid; time = h.world.minute; graph = g }) (inl refl);
              uid_is = sym (ap (λ (o : Option Soup). unwrap_or (option_map (λ (q : Soup). q.next_uid) o) 0) p.1) ∙ ap (λ (x : World × Reply). number x.1) is;
            };
          }

  pub added-given : (v : Whole) → IsSound v → WholeStep h adds v (Reply.number id) → (p : Soup) × (soup_in h.world u name ≡ Some p) × IdGivenOn v.world u p.sig id
  unfolding is_plain
  added-given v sound s = go (plain-step h adds v (Reply.number id) refl s)
    where
      thrown-not : (x : ℕ) → Reply.number id ≡ Reply.thrown x → ⊥
      thrown-not x e = cc

      go : Step h.world adds v.world (Reply.number id) → (p : Soup) × (soup_in h.world u name ≡ Some p) × IdGivenOn v.world u p.sig id
      go (plain none is) = let a = added-in v.world is in (a.p, a.named, mounted-given v u a.t a.p.sig id sound a.on a.has)
      go (found {u = x} looks has is) = absurd (none-some x looks)
      go (thrown {u = x} next is) = absurd (thrown-not x is)
      go (halfway {u = x} moves ok next is) = absurd (thrown-not x is)

-- ---- from one run to the next

pub alias-later : (reads : List ℕ → Option Store) (before : List Store) (image : List ℕ) (a : Alias) → Each (IdGiven a.soup a.uid) before → ReadsLater reads before image
    → (names : List (List ℕ)) (old : Outside) (u : ℕ) → length names ≤ 8 → held_by names old u ≡ Some image
    → (items : List Item) (rows : List (Row Whole)) (j : ℕ) → IsRun WholeStep (first_world reads names old) items rows
    → (spot : Spot) → resolved (world_at (first_world reads names old) rows j).world a ≡ Some spot → spot.unit ≡ u
    → (s : Store) × Among before s × HasEntry a.soup a.uid s
alias-later reads before image a each left names old u few holds items rows j run spot is on =
    resolves-later before (world_at (first_world reads names old) rows j).world u a spot each
    (next-later reads before image left names old u few holds items rows j run) is on

module _ (reads : List ℕ → Option Store) (limit : ℕ) (result : Result (Unit {0}) Halt) (names : List (List ℕ)) (old new : Outside) (ran : RanNamed WholeStep reads limit result names old new) where
  abbrev at : ℕ → Whole
  at k = world_at (first_world reads names old) ran.played.given.rows k

  pub alias-leads : (k m unit : ℕ) (a : Alias) (image : List ℕ) → IdGivenOn (at k).world unit a.soup a.uid → k ≤ m → CrashedAfter ran.played.given.rows old new m unit image
      → (names' : List (List ℕ)) (old' : Outside) (u : ℕ) → length names' ≤ 8 → held_by names' old' u ≡ Some image
      → (items : List Item) (rows : List (Row Whole)) (j : ℕ) → IsRun WholeStep (first_world reads names' old') items rows
      → (spot : Spot) → resolved (world_at (first_world reads names' old') rows j).world a ≡ Some spot → spot.unit ≡ u
      → (s : Store) × Among (stores_on (at m) unit) s × HasEntry a.soup a.uid s
  alias-leads k m unit a image begun low crashed names' old' u few holds items rows j run spot is on =
      alias-later reads (stores_on (at m) unit) image a each left names' old' u few holds items rows j run spot is on
    where
      later : StoresLater (stores_on (at k) unit) (stores_on (at m) unit)
      later = between-later (first_world reads names old) ran.played.given.first ran.played.given.rows k m ran.played.given.run low unit begun.some.0 begun.some.1

      each : Each (IdGiven a.soup a.uid) (stores_on (at m) unit)
      each = ids-later (stores_on (at k) unit) (stores_on (at m) unit) a.soup a.uid begun.given later

      left : ReadsLater reads (stores_on (at m) unit) image
      left = run-left reads limit result names old new ran m unit later.some.0 image crashed later.some.1
