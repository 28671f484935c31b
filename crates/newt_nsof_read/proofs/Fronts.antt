-- The front of a text, and what is read after it: together they are an object.
use Rattle.std.proofs.Common.{◌≡◌, ℕ, zero, suc, ◌-◌, ◌<◌, Bool, true, false, cond, ltb, leb, List, [], ◌∷◌, ◌++◌, length, Option, Some, None, refl, sym, ap, subst, ◌∙◌, append_assoc, arith, inl, inr}
use Rattle.std.specs.Prelude.{slice_get, not, ◌&&◌}
use Rattle.std.proofs.lemmas.Bool.{cases_lt, lt-ltb, le-ltb}
use Rattle.std.proofs.lemmas.List.{append-nil, length-append}
use Rattle.newt_graph.specs.declared.node.Node.{Node}
use Rattle.newt_graph.specs.declared.node.Node.TheVariants.{Array, Frame}
use Rattle.newt_graph.specs.declared.node.Ref.{Ref}
use Rattle.newt_graph.specs.Graph.{all_distinct}
use Rattle.newt_graph.specs.Steps.{◌>>=◌}
use Rattle.newt_spec_nsof.specs.Text.{SymbolText, Again, Object}
use Rattle.newt_graph.proofs.Options.{bind_some, unless, provided, some_is}
use Rattle.newt_graph.proofs.Elements.{get_append}
use Rattle.newt_nsof_read.specs.declared.tag.Tag.{Tag}
use Rattle.newt_nsof_read.specs.declared.tag.Tag.TheVariants as tags
use Rattle.newt_nsof_read.specs.declared.open.Kind.{Kind}
use Rattle.newt_nsof_read.specs.declared.open.Kind.TheVariants as kinds
use Rattle.newt_nsof_read.specs.declared.open.Front.{Front}
use Rattle.newt_nsof_read.specs.declared.open.Front.TheVariants as fronts
use Rattle.newt_nsof_read.specs.declared.fault.NsofFault.{NsofFault}
use Rattle.newt_nsof_read.specs.declared.fault.NsofFault.TheVariants.{Malformed, Compressed, Memory}
use Rattle.newt_nsof_read.specs.Met.{Met}
use Rattle.newt_nsof_read.specs.Opened.{Opened}
use Rattle.newt_nsof_read.specs.Reading.{Fails, add, count_at, label_at, many_at, frame_at, array_at, plain_array_at, tag_of, object_by, tagged_at, object_at, is_other}
use Rattle.newt_nsof_read.specs.Stack.{just_opened, closed, rest_at, resumed, whole, as_front, opens, leaf_by, frame_front, plain_array_front, array_front, front_by, allowed, front_of, FrontIsOpen}
use Rattle.newt_nsof_read.proofs.Fields.{IsBytes, IsBytes-rest, Takes, Takes-then, count_takes}
use Rattle.newt_nsof_read.proofs.Taken.{Added, add_adds, label_sound, many_sound, label_lists, stays_open}
use Rattle.newt_nsof_read.proofs.Sound.{object_sound}
use Rattle.newt_nsof_read.proofs.Stacks.{bind_through, resumed_none, Stays}

-- ---- containers

-- reading on from a container of which no value was read
none_yet : (wide : Bool) (room n : ℕ) (kind : Kind) (count : ℕ) (met : Met) (bytes : List ℕ)
    → (many_at (λ met rest. object_at wide room met rest) count met bytes >>= closed (just_opened n kind count)) ≡ rest_at wide room (just_opened n kind count) met bytes
unfolding rest_at
none_yet wide room n kind count met bytes =
    let all : count - 0 ≡ count = omega arith in
    rw all refl

distinct_front : (wide : Bool) (room n count : ℕ) (labels : List ℕ × Met × List ℕ) (distinct : Bool)
    → (cond distinct (many_at (λ met rest. object_at wide room met rest) count labels.1 labels.2) None >>= closed (just_opened n (kinds.Frame labels.0) count))
    ≡ (cond distinct (Some (fronts.Open (just_opened n (kinds.Frame labels.0) count), labels.1, labels.2)) None >>= whole wide room)
distinct_front wide room n count labels true = none_yet wide room n (kinds.Frame labels.0) count labels.1 labels.2
distinct_front wide room n count labels false = refl

frame_is : (wide : Bool) (room : ℕ) (met : Met) (bytes : List ℕ) → frame_at (λ met rest. object_at wide room met rest) met bytes ≡ (frame_front met bytes >>= whole wide room)
unfolding frame_at frame_front
frame_is wide room met bytes =
    bind_through (count_at bytes) _ (whole wide room) _ (λ count.
    bind_through (cond (leb count.0 65535) (add met (Frame [] [])) None) _ (whole wide room) _ (λ opened.
    bind_through (many_at label_at count.0 opened.1 count.1) _ (whole wide room) _ (λ labels.
    distinct_front wide room opened.0 count.0 labels (all_distinct labels.0))))

plain_array_is : (wide : Bool) (room : ℕ) (met : Met) (bytes : List ℕ) → plain_array_at (λ met rest. object_at wide room met rest) met bytes ≡ (plain_array_front met bytes >>= whole wide room)
unfolding plain_array_at plain_array_front
plain_array_is wide room met bytes =
    bind_through (count_at bytes) _ (whole wide room) _ (λ count.
    bind_through (cond (leb count.0 65535) (add met (Array None [])) None) _ (whole wide room) _ (λ opened.
    none_yet wide room opened.0 (kinds.Array None) count.0 opened.1 count.1))

array_is : (wide : Bool) (room : ℕ) (met : Met) (bytes : List ℕ) → array_at (λ met rest. object_at wide room met rest) met bytes ≡ (array_front met bytes >>= whole wide room)
unfolding array_at array_front
array_is wide room met bytes =
    bind_through (count_at bytes) _ (whole wide room) _ (λ count.
    bind_through (cond (leb count.0 65535) (add met (Array None [])) None) _ (whole wide room) _ (λ opened.
    bind_through (label_at opened.1 count.1) _ (whole wide room) _ (λ label.
    none_yet wide room opened.0 (kinds.Array (Some label.0)) count.0 label.1 label.2)))

-- ---- objects

as_whole : (wide : Bool) (room : ℕ) (read : Option (Ref × Met × List ℕ)) → read ≡ ((read >>= as_front) >>= whole wide room)
as_whole wide room None = refl
as_whole wide room (Some x) = refl

-- where no container may be opened
closed_by : (wide : Bool) (room : ℕ) (met : Met) (rest : List ℕ) (tag : Tag) → object_by wide None met rest tag ≡ (allowed wide false met rest tag >>= whole wide room)
closed_by wide room met rest tags.Word = as_whole wide room (object_by wide None met rest tags.Word)
closed_by wide room met rest tags.Character = as_whole wide room (object_by wide None met rest tags.Character)
closed_by wide room met rest tags.WideCharacter = as_whole wide room (object_by wide None met rest tags.WideCharacter)
closed_by wide room met rest tags.Binary = as_whole wide room (object_by wide None met rest tags.Binary)
closed_by wide room met rest tags.Array = refl
closed_by wide room met rest tags.PlainArray = refl
closed_by wide room met rest tags.Frame = refl
closed_by wide room met rest tags.Symbol = as_whole wide room (object_by wide None met rest tags.Symbol)
closed_by wide room met rest tags.String = as_whole wide room (object_by wide None met rest tags.String)
closed_by wide room met rest tags.Again = as_whole wide room (object_by wide None met rest tags.Again)
closed_by wide room met rest tags.Nil = refl
closed_by wide room met rest tags.Rectangle = refl
closed_by wide room met rest tags.Large = as_whole wide room (object_by wide None met rest tags.Large)

open_by : (wide : Bool) (room : ℕ) (met : Met) (rest : List ℕ) (tag : Tag) → object_by wide (Some (λ met rest. object_at wide room met rest)) met rest tag ≡ (allowed wide true met rest tag >>= whole wide room)
open_by wide room met rest tags.Word = as_whole wide room (object_by wide None met rest tags.Word)
open_by wide room met rest tags.Character = as_whole wide room (object_by wide None met rest tags.Character)
open_by wide room met rest tags.WideCharacter = as_whole wide room (object_by wide None met rest tags.WideCharacter)
open_by wide room met rest tags.Binary = as_whole wide room (object_by wide None met rest tags.Binary)
open_by wide room met rest tags.Array = array_is wide room met rest
open_by wide room met rest tags.PlainArray = plain_array_is wide room met rest
open_by wide room met rest tags.Frame = frame_is wide room met rest
open_by wide room met rest tags.Symbol = as_whole wide room (object_by wide None met rest tags.Symbol)
open_by wide room met rest tags.String = as_whole wide room (object_by wide None met rest tags.String)
open_by wide room met rest tags.Again = as_whole wide room (object_by wide None met rest tags.Again)
open_by wide room met rest tags.Nil = refl
open_by wide room met rest tags.Rectangle = as_whole wide room (leaf_by wide met rest tags.Rectangle)
open_by wide room met rest tags.Large = as_whole wide room (object_by wide None met rest tags.Large)

object_closed : (wide : Bool) (room : ℕ) (met : Met) (bytes : List ℕ) → object_at wide zero met bytes ≡ (front_of wide false met bytes >>= whole wide room)
unfolding object_at tagged_at front_of
object_closed wide room met [] = refl
object_closed wide room met (b ∷ rest) = bind_through (tag_of b) (allowed wide false met rest) (whole wide room) (object_by wide None met rest) (closed_by wide room met rest)

object_open : (wide : Bool) (room : ℕ) (met : Met) (bytes : List ℕ) → object_at wide (suc room) met bytes ≡ (front_of wide true met bytes >>= whole wide room)
unfolding object_at tagged_at front_of
object_open wide room met [] = refl
object_open wide room met (b ∷ rest) =
    bind_through (tag_of b) (allowed wide true met rest) (whole wide room) (object_by wide (Some (λ met rest. object_at wide room met rest)) met rest) (open_by wide room met rest)

-- an object is its front, and what is read after it
pub object_front : (wide : Bool) (room : ℕ) (met : Met) (bytes : List ℕ) → object_at wide room met bytes ≡ (front_of wide (ltb 0 room) met bytes >>= whole wide (room - 1))
object_front wide zero met bytes = object_closed wide (zero - 1) met bytes
object_front wide (suc room) met bytes =
    let may : true ≡ ltb 0 (suc room) = sym (lt-ltb 0 (suc room) (omega arith)) in
    let less : room ≡ suc room - 1 = omega arith in
    object_open wide room met bytes ∙ ap (λ (b : Bool). front_of wide b met bytes >>= whole wide room) may ∙ ap (λ (n : ℕ). front_of wide (ltb 0 (suc room)) met bytes >>= whole wide n) less

-- ---- what a front takes

-- what was read at the front of a text
pub record FrontTaken (met : Met) (bytes : List ℕ) (found : Front × Met × List ℕ) : Type 0 where
  pub stays : Stays met found.1
  pub shorter : length found.2 < length bytes
  pub opened : FrontIsOpen found.1 found.0
  pub fits : IsBytes found.2

grown_stays : (met then : Met) (new : List Node) → then.nodes ≡ met.nodes ++ new → Stays met then
grown_stays met then new grown k h = rw grown (there (slice_get met.nodes k) refl h)
  where
    there : (o : Option Node) → slice_get met.nodes k ≡ o → is_other o ≡ true → is_other (slice_get (met.nodes ++ new) k) ≡ true
    there (Some node) e h = rw (get_append met.nodes new k node e) h
    there None e h = absurd cc

-- each text of an object has its tag
some_text : {wide : Bool} {room : ℕ} {before : List Node} {numbered text : List ℕ} {value : Ref} {new : List Node} {after : List ℕ} → Object wide room before numbered text value new after → 0 < length text
some_text (Object.word h is) = omega arith
some_text (Object.character h) = omega arith
some_text (Object.wide_character h l) = omega arith
some_text Object.nil = omega arith
some_text (Object.symbol (SymbolText.symbol h is interned)) = omega arith
some_text (Object.again (Again.again h e)) = omega arith
some_text (Object.string h is) = omega arith
some_text (Object.binary h is label) = omega arith
some_text (Object.large label is) = omega arith
some_text (Object.frame h are paired labels values) = omega arith
some_text (Object.rectangle t l b r each) = omega arith
some_text (Object.plain_array h few values) = omega arith
some_text (Object.array h few label values) = omega arith

leaf_is_object : (wide : Bool) (met : Met) (rest : List ℕ) (tag : Tag) (found : Ref × Met × List ℕ) → leaf_by wide met rest tag ≡ Some found → object_by wide (Some (λ met rest. object_at wide zero met rest)) met rest tag ≡ Some found
leaf_is_object wide met rest tags.Word found e = e
leaf_is_object wide met rest tags.Character found e = e
leaf_is_object wide met rest tags.WideCharacter found e = e
leaf_is_object wide met rest tags.Binary found e = e
leaf_is_object wide met rest tags.Array found e = absurd cc
leaf_is_object wide met rest tags.PlainArray found e = absurd cc
leaf_is_object wide met rest tags.Frame found e = absurd cc
leaf_is_object wide met rest tags.Symbol found e = e
leaf_is_object wide met rest tags.String found e = e
leaf_is_object wide met rest tags.Again found e = e
leaf_is_object wide met rest tags.Nil found e = e
leaf_is_object wide met rest tags.Rectangle found e = e
leaf_is_object wide met rest tags.Large found e = e

leaf_read : (wide : Bool) (b : ℕ) (tag : Tag) (met : Met) (rest : List ℕ) (found : Ref × Met × List ℕ) → tag_of b ≡ Some tag → leaf_by wide met rest tag ≡ Some found → object_at wide (suc zero) met (b ∷ rest) ≡ Some found
unfolding object_at tagged_at
leaf_read wide b tag met rest found is e = rw is (leaf_is_object wide met rest tag found e)

leaf_takes : (wide : Bool) (b : ℕ) (tag : Tag) (met : Met) (rest : List ℕ) (found : Ref × Met × List ℕ) → IsBytes (b ∷ rest) → tag_of b ≡ Some tag → leaf_by wide met rest tag ≡ Some found → FrontTaken met (b ∷ rest) (fronts.Value found.0, found.1, found.2)
leaf_takes wide b tag met rest found fits is e =
    let t = object_sound wide (suc zero) met (b ∷ rest) found fits (leaf_read wide b tag met rest found is e) in
    let some : 0 < length t.text = some_text (t.spelled met.nodes refl) in
    record {
      stays = grown_stays met found.1 t.new t.grown;
      shorter = omega (arith, ap length t.takes.parts, length-append t.text found.2, some);
      opened = tt;
      fits = t.takes.rest_fits;
    }

leaf_front : (wide : Bool) (b : ℕ) (tag : Tag) (met : Met) (rest : List ℕ) (found : Front × Met × List ℕ) → IsBytes (b ∷ rest) → tag_of b ≡ Some tag → (leaf_by wide met rest tag >>= as_front) ≡ Some found → FrontTaken met (b ∷ rest) found
leaf_front wide b tag met rest found fits is e =
    let a = bind_some (leaf_by wide met rest tag) as_front found e in
    subst (FrontTaken met (b ∷ rest)) (some_is a.2) (leaf_takes wide b tag met rest a.0 fits is a.1)

-- a container that was opened, and what was read of it
opened_front : (met then : Met) (b : ℕ) (bytes text rest : List ℕ) (node : Node) (opened : ℕ × Met) (new : List Node) (kind : Kind) (count : ℕ)
    → is_other (Some node) ≡ true → Added met node opened → then.nodes ≡ opened.1.nodes ++ new → Takes bytes text rest
    → FrontTaken met (b ∷ bytes) (fronts.Open (just_opened opened.0 kind count), then, rest)
opened_front met then b bytes text rest node opened new kind count other added grown takes = record {
  stays = grown_stays met then (node ∷ new) (grown ∙ ap (λ (x : List Node). x ++ new) added.nodes ∙ append_assoc met.nodes (node ∷ []) new);
  shorter = omega (arith, ap length takes.parts, length-append text rest);
  opened = stays_open met node opened new then.nodes added grown other;
  fits = takes.rest_fits;
}

frame_takes : (b : ℕ) (met : Met) (bytes : List ℕ) (found : Front × Met × List ℕ) → IsBytes bytes → frame_front met bytes ≡ Some found → FrontTaken met (b ∷ bytes) found
unfolding frame_front
frame_takes b met bytes found fits e =
    let count = bind_some (count_at bytes) _ found e in
    let opened = bind_some (cond (leb count.0.0 65535) (add met (Frame [] [])) None) _ found count.2 in
    let labels = bind_some (many_at label_at count.0.0 opened.0.1 count.0.1) _ found opened.2 in
    let distinct = provided (all_distinct labels.0.0) _ found labels.2 in
    let few = provided (leb count.0.0 65535) (add met (Frame [] [])) opened.0 opened.1 in
    let counted = count_takes bytes count.0 fits count.1 in
    let labelled = many_sound label_lists label_at label_sound count.0.0 opened.0.1 count.0.1 labels.0 counted.2.rest_fits labels.1 in
    subst (FrontTaken met (b ∷ bytes)) (some_is distinct.1)
    (opened_front met labels.0.1 b bytes (counted.0 ++ labelled.text) labels.0.2 (Frame [] []) opened.0 labelled.new (kinds.Frame labels.0.0) count.0.0 refl (add_adds met (Frame [] []) opened.0 few.1) labelled.grown
    (Takes-then bytes counted.0 count.0.1 labelled.text labels.0.2 counted.2 labelled.takes))

plain_array_takes : (b : ℕ) (met : Met) (bytes : List ℕ) (found : Front × Met × List ℕ) → IsBytes bytes → plain_array_front met bytes ≡ Some found → FrontTaken met (b ∷ bytes) found
unfolding plain_array_front
plain_array_takes b met bytes found fits e =
    let count = bind_some (count_at bytes) _ found e in
    let opened = bind_some (cond (leb count.0.0 65535) (add met (Array None [])) None) _ found count.2 in
    let few = provided (leb count.0.0 65535) (add met (Array None [])) opened.0 opened.1 in
    let counted = count_takes bytes count.0 fits count.1 in
    subst (FrontTaken met (b ∷ bytes)) (some_is opened.2)
    (opened_front met opened.0.1 b bytes counted.0 count.0.1 (Array None []) opened.0 [] (kinds.Array None) count.0.0 refl (add_adds met (Array None []) opened.0 few.1) (sym (append-nil opened.0.1.nodes)) counted.2)

array_takes : (b : ℕ) (met : Met) (bytes : List ℕ) (found : Front × Met × List ℕ) → IsBytes bytes → array_front met bytes ≡ Some found → FrontTaken met (b ∷ bytes) found
unfolding array_front
array_takes b met bytes found fits e =
    let count = bind_some (count_at bytes) _ found e in
    let opened = bind_some (cond (leb count.0.0 65535) (add met (Array None [])) None) _ found count.2 in
    let label = bind_some (label_at opened.0.1 count.0.1) _ found opened.2 in
    let few = provided (leb count.0.0 65535) (add met (Array None [])) opened.0 opened.1 in
    let counted = count_takes bytes count.0 fits count.1 in
    let labelled = label_sound opened.0.1 count.0.1 label.0 counted.2.rest_fits label.1 in
    subst (FrontTaken met (b ∷ bytes)) (some_is label.2)
    (opened_front met label.0.1 b bytes (counted.0 ++ labelled.text) label.0.2 (Array None []) opened.0 labelled.new (kinds.Array (Some label.0.0)) count.0.0 refl (add_adds met (Array None []) opened.0 few.1) labelled.grown
    (Takes-then bytes counted.0 count.0.1 labelled.text label.0.2 counted.2 labelled.takes))

by_takes : (wide : Bool) (b : ℕ) (tag : Tag) (met : Met) (rest : List ℕ) (found : Front × Met × List ℕ) → IsBytes (b ∷ rest) → tag_of b ≡ Some tag → front_by wide met rest tag ≡ Some found → FrontTaken met (b ∷ rest) found
by_takes wide b tags.Word met rest found fits is e = leaf_front wide b tags.Word met rest found fits is e
by_takes wide b tags.Character met rest found fits is e = leaf_front wide b tags.Character met rest found fits is e
by_takes wide b tags.WideCharacter met rest found fits is e = leaf_front wide b tags.WideCharacter met rest found fits is e
by_takes wide b tags.Binary met rest found fits is e = leaf_front wide b tags.Binary met rest found fits is e
by_takes wide b tags.Array met rest found fits is e = array_takes b met rest found (IsBytes-rest b rest fits) e
by_takes wide b tags.PlainArray met rest found fits is e = plain_array_takes b met rest found (IsBytes-rest b rest fits) e
by_takes wide b tags.Frame met rest found fits is e = frame_takes b met rest found (IsBytes-rest b rest fits) e
by_takes wide b tags.Symbol met rest found fits is e = leaf_front wide b tags.Symbol met rest found fits is e
by_takes wide b tags.String met rest found fits is e = leaf_front wide b tags.String met rest found fits is e
by_takes wide b tags.Again met rest found fits is e = leaf_front wide b tags.Again met rest found fits is e
by_takes wide b tags.Nil met rest found fits is e = leaf_front wide b tags.Nil met rest found fits is e
by_takes wide b tags.Rectangle met rest found fits is e = leaf_front wide b tags.Rectangle met rest found fits is e
by_takes wide b tags.Large met rest found fits is e = leaf_front wide b tags.Large met rest found fits is e

pub front_takes : (wide may_open : Bool) (met : Met) (bytes : List ℕ) (found : Front × Met × List ℕ) → IsBytes bytes → front_of wide may_open met bytes ≡ Some found → FrontTaken met bytes found
unfolding front_of
front_takes wide may_open met [] found fits e = absurd cc
front_takes wide may_open met (b ∷ rest) found fits e =
    let tag = bind_some (tag_of b) (allowed wide may_open met rest) found e in
    let may = unless (opens tag.0 && not may_open) (front_by wide met rest tag.0) found tag.2 in
    by_takes wide b tag.0 met rest found fits tag.1 may.1

-- ---- the loop

may_is : (n : ℕ) → ltb n 200 ≡ ltb 0 (200 - n)
may_is n =
    elim (cases_lt n 200) [
      | inl lt ↦ lt-ltb n 200 lt ∙ sym (lt-ltb 0 (200 - n) (omega arith))
      | inr le ↦ le-ltb n 200 le ∙ sym (le-ltb 0 (200 - n) (omega arith))
    ]

-- an object where so many containers are open
object_is : (wide : Bool) (n : ℕ) (met : Met) (rest : List ℕ) (read : Option (Front × Met × List ℕ)) → front_of wide (ltb n 200) met rest ≡ read → object_at wide (200 - n) met rest ≡ (read >>= whole wide (200 - n - 1))
object_is wide n met rest read e =
    object_front wide (200 - n) met rest ∙ ap (λ (r : Option (Front × Met × List ℕ)). r >>= whole wide (200 - n - 1)) (ap (λ (b : Bool). front_of wide b met rest) (sym (may_is n)) ∙ e)

pub goes_on : (wide : Bool) (os : List Opened) (met : Met) (rest : List ℕ) (front : Front) (then : Met) (remaining : List ℕ) (total after : Option (Ref × Met × List ℕ))
    → front_of wide (ltb (length os) 200) met rest ≡ Some (front, then, remaining)
    → resumed wide 200 os (object_at wide (200 - length os) met rest) ≡ total
    → after ≡ resumed wide 200 os (whole wide (200 - length os - 1) (front, then, remaining))
    → after ≡ total
goes_on wide os met rest front then remaining total after read so_far entered =
    entered ∙ sym (ap (resumed wide 200 os) (object_is wide (length os) met rest (Some (front, then, remaining)) read)) ∙ so_far

pub ends : (e : NsofFault) (wide : Bool) (os : List Opened) (met : Met) (rest : List ℕ) (total : Option (Ref × Met × List ℕ))
    → Fails e (front_of wide (ltb (length os) 200) met rest)
    → resumed wide 200 os (object_at wide (200 - length os) met rest) ≡ total
    → Fails e total
ends Memory wide os met rest total h so_far = tt
ends Compressed wide os met rest total h so_far = h
ends Malformed wide os met rest total h so_far = sym so_far ∙ ap (resumed wide 200 os) (object_is wide (length os) met rest None h) ∙ resumed_none wide 200 os
