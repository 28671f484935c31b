-- The texts of replies, from their fields.
use Rattle.std.proofs.Common.{◌≡◌, ℕ, List, [], ◌∷◌, ◌++◌, map, Some, None, codes, decimal, refl, ap, ◌∙◌}
use Rattle.newt_base.specs.Text.{decimal_text, hex_text}
use Rattle.newt_base.proofs.Numerals.{decimal_written}
use Rattle.newt_graph.specs.Graph.{RawGraph}
use Rattle.newt_spec_literal.specs.Printed as printed
use Rattle.newt_spec_nsof.specs.Written.{nsof}
use Rattle.newt_spec_store.specs.Keys.{IndexSpec}
use Rattle.newt_spec_store.specs.Store.{TagTable}
use Rattle.newt_spec_world.specs.Reply as world
use Rattle.newt_spec_world.specs.Reply.{items, spaced, name_field, path_field}
use Rattle.newt_reply.specs.Fields.{written, ok_text, store_item, soup_item, part_item, spec_item, alias_item}
use Rattle.newt_reply.specs.Said.{store_row, soup_row}
use Rattle.newt_reply.specs.declared.rows.StoreLine.{StoreLine}
use Rattle.newt_reply.specs.declared.rows.SoupLine.{SoupLine}

-- numbers, as std writes them
two : (f : List ℕ → List ℕ → List ℕ) (m n : ℕ) → f (decimal_text m) (decimal_text n) ≡ f (decimal m) (decimal n)
two f m n = ap (λ a. f a (decimal_text n)) (decimal_written m) ∙ ap (f (decimal m)) (decimal_written n)

three : (f : List ℕ → List ℕ → List ℕ → List ℕ) (m n k : ℕ) → f (decimal_text m) (decimal_text n) (decimal_text k) ≡ f (decimal m) (decimal n) (decimal k)
three f m n k = ap (λ a. f a (decimal_text n) (decimal_text k)) (decimal_written m) ∙ two (f (decimal m)) n k

same_items : {A B : Type 0} (f : B → List ℕ) (g : A → B) (h : A → List ℕ) → ((a : A) → f (g a) ≡ h a) → (xs : List A) → map f (map g xs) ≡ map h xs
same_items f g h same [] = refl
same_items f g h same (x ∷ xs) = ap (λ a. a ∷ map f (map g xs)) (same x) ∙ ap (λ as'. h x ∷ as') (same_items f g h same xs)

-- ---- one reply each

pub done_text : written world.done ≡ ok_text ([] ∷ [])
unfolding written ok_text
done_text = refl

pub nil_text : written world.nil ≡ ok_text (codes "nil" ∷ [])
unfolding written ok_text
nil_text = refl

pub deleted_text : written world.deleted ≡ ok_text (codes "deleted" ∷ [])
unfolding written ok_text
deleted_text = refl

pub begin_text : written world.begin ≡ ok_text (codes "begin" ∷ [])
unfolding written ok_text
begin_text = refl

pub end_text : written world.«end» ≡ ok_text (codes "end" ∷ [])
unfolding written ok_text
end_text = refl

pub number_text : (n : ℕ) → written (world.number n) ≡ ok_text (decimal n ∷ [])
unfolding written ok_text
number_text n = ap (λ a. ok_text (a ∷ [])) (decimal_written n)

pub added_text : (u uid : ℕ) → written (world.added u uid) ≡ ok_text (decimal u ∷ decimal uid ∷ [])
unfolding written ok_text
added_text u uid = two (λ a b. ok_text (a ∷ b ∷ [])) u uid

pub store_text : (sig : ℕ) (name : List ℕ) → written (world.store sig name) ≡ ok_text (decimal sig ∷ name_field name ∷ [])
unfolding written ok_text
store_text sig name = ap (λ a. ok_text (a ∷ name_field name ∷ [])) (decimal_written sig)

store_item_is : (line : StoreLine) → spaced (decimal_text line.unit ∷ decimal_text line.sig ∷ name_field line.name ∷ []) ≡ store_item line
unfolding store_item
store_item_is line = two (λ a b. spaced (a ∷ b ∷ name_field line.name ∷ [])) line.unit line.sig

pub stores_text : (lines : List StoreLine) → written (world.stores (map store_row lines)) ≡ ok_text (items (map store_item lines) ∷ [])
unfolding written ok_text
stores_text lines =
    ap (λ rows. ok_text (items rows ∷ []))
    (same_items (λ (r : ℕ × ℕ × List ℕ). spaced (decimal_text r.0 ∷ decimal_text r.1 ∷ name_field r.2 ∷ [])) store_row store_item store_item_is lines)

soup_item_is : (line : SoupLine) → spaced (name_field line.name ∷ decimal_text line.sig ∷ decimal_text line.count ∷ []) ≡ soup_item line
unfolding soup_item
soup_item_is line = two (λ a b. spaced (name_field line.name ∷ a ∷ b ∷ [])) line.sig line.count

pub soups_text : (lines : List SoupLine) → written (world.soups (map soup_row lines)) ≡ ok_text (items (map soup_item lines) ∷ [])
unfolding written ok_text
soups_text lines =
    ap (λ rows. ok_text (items rows ∷ []))
    (same_items (λ (r : List ℕ × ℕ × ℕ). spaced (name_field r.0 ∷ decimal_text r.1 ∷ decimal_text r.2 ∷ [])) soup_row soup_item soup_item_is lines)

pub specs_text : (specs : List IndexSpec) → written (world.indexes specs) ≡ ok_text (items (map spec_item specs) ∷ [])
unfolding written ok_text spec_item part_item
specs_text specs = refl

pub no_tags_text : written (world.tags None) ≡ ok_text ([] ∷ [])
unfolding written ok_text
no_tags_text = refl

pub tags_text : (table : TagTable) → written (world.tags (Some table)) ≡ ok_text (path_field table.path ∷ table.symbols)
unfolding written ok_text
tags_text table = refl

pub bytes_text : (bytes : List ℕ) → written (world.hex bytes) ≡ ok_text (hex_text bytes ∷ [])
unfolding written ok_text
bytes_text bytes = refl

pub nsof_text : (g : RawGraph) → written (world.nsof_of g) ≡ ok_text (hex_text (nsof g) ∷ [])
unfolding written ok_text
nsof_text g = refl

pub literal_text : (g : RawGraph) → written (world.literal_of g) ≡ ok_text (printed.literal g ∷ [])
unfolding written ok_text
literal_text g = refl

pub timed_text : (t : ℕ) (g : RawGraph) → written (world.timed t g) ≡ ok_text (decimal t ∷ printed.literal g ∷ [])
unfolding written ok_text
timed_text t g = ap (λ a. ok_text (a ∷ printed.literal g ∷ [])) (decimal_written t)

pub timed_nsof_text : (t : ℕ) (g : RawGraph) → written (world.timed_nsof t g) ≡ ok_text (decimal t ∷ hex_text (nsof g) ∷ [])
unfolding written ok_text
timed_nsof_text t g = ap (λ a. ok_text (a ∷ hex_text (nsof g) ∷ [])) (decimal_written t)

pub alias_text : (s p uid : ℕ) → written (world.alias s p uid) ≡ ok_text (alias_item s p uid ∷ [])
unfolding written ok_text alias_item
alias_text s p uid = three (λ a b c. ok_text ((codes "[alias: " ++ items (a ∷ b ∷ c ∷ []) ++ codes "]") ∷ [])) s p uid

pub where_text : (u : ℕ) (name : List ℕ) (uid : ℕ) → written (world.where_is u name uid) ≡ ok_text (decimal u ∷ name_field name ∷ decimal uid ∷ [])
unfolding written ok_text
where_text u name uid = two (λ a b. ok_text (a ∷ name_field name ∷ b ∷ [])) u uid

pub current_text : (u uid t : ℕ) (g : RawGraph) → written (world.current u uid t g) ≡ ok_text (decimal u ∷ decimal uid ∷ decimal t ∷ printed.literal g ∷ [])
unfolding written ok_text
current_text u uid t g = three (λ a b c. ok_text (a ∷ b ∷ c ∷ printed.literal g ∷ [])) u uid t
