-- Lists with a comma and a space between each two items, and lists of fields.
use Rattle.std.proofs.Common.{◌≡◌, ℕ, ◌+◌, ◌<◌, ◌≤◌, Bool, false, ◌==◌, if◌then◌else◌, List, [], ◌∷◌, ◌++◌, map, length, take, get_or, flat_map, codes, decimal, refl, sym, ap, ◌∙◌, arith, append_assoc, Bor}
use Rattle.std.proofs.lemmas.Bool.{ne_eqb}
use Rattle.std.proofs.lemmas.List.{append-nil, take_more, take_all, length-take-le, length-map, map-append}
use Rattle.newt_spec_world.specs.Reply.{items, field, ok}
use Rattle.newt_reply.specs.Fields.{alias_item, ok_text}

-- ---- items

regrouped : (y rest x : List ℕ) → (y ++ codes ", ") ++ ((rest ++ codes ", ") ++ x) ≡ (((y ++ codes ", ") ++ rest) ++ codes ", ") ++ x
regrouped y rest x = simp append_assoc

next : (y : List ℕ) (ys : List (List ℕ)) (x : List ℕ) → items ((y ∷ ys) ++ x ∷ []) ≡ items (y ∷ ys) ++ codes ", " ++ x
next y [] x = refl
next y (z ∷ ys) x = ap (λ rest. y ++ codes ", " ++ rest) (next z ys x) ∙ regrouped y (items (z ∷ ys)) x

pushed : (ys : List (List ℕ)) (x : List ℕ) → items (ys ++ x ∷ []) ≡ (if length ys == 0 then items ys ++ x else items ys ++ codes ", " ++ x)
pushed [] x = refl
pushed (y ∷ ys) x =
    let some : (length (y ∷ ys) == 0) ≡ false = ne_eqb (length (y ∷ ys)) 0 (λ e. absurd (omega arith)) in
    next y ys x ∙ ap (λ (b : Bool). if b then items (y ∷ ys) ++ x else items (y ∷ ys) ++ codes ", " ++ x) (sym some)

-- one item more of a list
pub one_more : {A : Type 0} (f : A → List ℕ) (xs : List A) (i : ℕ) (x : A) (text new : List ℕ) → i < length xs → x ≡ get_or xs i x → text ≡ items (map f (take i xs))
    → new ≡ (if i == 0 then text ++ f x else text ++ codes ", " ++ f x) → new ≡ items (map f (take (i + 1) xs))
one_more {A} f xs i x text new within x_is text_is new_is =
    let within' : i ≤ length xs = omega arith in
    let ys : List (List ℕ) = map f (take i xs) in
    let count : length ys ≡ i = length-map (take i xs) f ∙ length-take-le i xs within' in
    let more : map f (take (i + 1) xs) ≡ ys ++ f x ∷ [] =
    ap (map f) (take_more xs i x within) ∙ (map-append f (take i xs) (get_or xs i x ∷ []) ∙ ap (λ a. ys ++ f a ∷ []) (sym x_is)) in
    new_is
    ∙ (ap (λ t. if i == 0 then t ++ f x else t ++ codes ", " ++ f x) text_is
    ∙ (ap (λ n. if n == 0 then items ys ++ f x else items ys ++ codes ", " ++ f x) (sym count)
    ∙ (sym (pushed ys (f x)) ∙ ap items (sym more))))

-- ---- fields

fields_of : (parts : List (Bor (List ℕ))) → flat_map (λ part. field part.now) parts ≡ flat_map field (map (λ part. part.now) parts)
fields_of [] = refl
fields_of (part ∷ parts) = ap (λ rest. field part.now ++ rest) (fields_of parts)

-- the line up to its fields
pub front_is : (parts : List (Bor (List ℕ))) (i : ℕ) (line : List ℕ) → length parts ≤ i
    → line ≡ codes "ok" ++ flat_map (λ part. field part.now) (take i parts) → line ≡ ok (map (λ part. part.now) parts)
front_is parts i line all line_is =
    line_is ∙ ap (λ t. codes "ok" ++ t) (ap (flat_map (λ part. field part.now)) (take_all i parts all) ∙ fields_of parts)

-- the whole line
pub whole_line : (fields : List (List ℕ)) (line new : List ℕ) → line ≡ ok fields → new ≡ line ++ 10 ∷ [] → new ≡ ok_text fields
unfolding ok_text
whole_line fields line new line_is new_is = new_is ∙ ap (λ t. t ++ 10 ∷ []) line_is

field_more : (fields : List (List ℕ)) (c : ℕ) (cs : List ℕ) → flat_map field fields ++ 32 ∷ c ∷ cs ≡ flat_map field (fields ++ (c ∷ cs) ∷ [])
field_more [] c cs = sym (append-nil (32 ∷ c ∷ cs))
field_more (x ∷ fields) c cs = append_assoc (field x) (flat_map field fields) (32 ∷ c ∷ cs) ∙ ap (λ rest. field x ++ rest) (field_more fields c cs)

-- a field that has a character, after the others
pub one_field_more : (fields : List (List ℕ)) (text front spaced line : List ℕ) → 0 < length text → front ≡ ok fields
    → spaced ≡ front ++ 32 ∷ [] → line ≡ spaced ++ text → line ≡ ok (fields ++ text ∷ [])
one_field_more fields [] front spaced line some front_is spaced_is line_is = absurd (omega (arith, some))
one_field_more fields (c ∷ cs) front spaced line some front_is spaced_is line_is =
    line_is ∙ ap (λ t. t ++ c ∷ cs) (spaced_is ∙ ap (λ t. t ++ 32 ∷ []) front_is)
    ∙ append_assoc (ok fields) (32 ∷ []) (c ∷ cs) ∙ append_assoc (codes "ok") (flat_map field fields) (32 ∷ c ∷ cs)
    ∙ ap (λ t. codes "ok" ++ t) (field_more fields c cs)

-- ---- aliases

bracketed : (front a b c : List ℕ)
    → front ++ (a ++ 44 ∷ 32 ∷ (b ++ 44 ∷ 32 ∷ (c ++ 93 ∷ []))) ≡ (front ++ ((a ++ 44 ∷ 32 ∷ []) ++ ((b ++ 44 ∷ 32 ∷ []) ++ c))) ++ 93 ∷ []
bracketed front a b c = simp append_assoc

pub alias_parts : (store soup uid : ℕ)
    → codes "[alias: " ++ (decimal store ++ 44 ∷ 32 ∷ (decimal soup ++ 44 ∷ 32 ∷ (decimal uid ++ 93 ∷ []))) ≡ alias_item store soup uid
unfolding alias_item
alias_parts store soup uid = bracketed (codes "[alias: ") (decimal store) (decimal soup) (decimal uid)
