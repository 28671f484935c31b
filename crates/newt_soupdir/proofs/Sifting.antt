-- A program's reader gives what the store's reader gives, in another form, where that passes a test, and else nothing.
use Rattle.std.proofs.Common.{◌≡◌, ℕ, zero, suc, Bool, true, false, cond, ◌&&◌, List, [], ◌∷◌, map, Option, Some, None, option_and_then, option_map, refl, sym, ap, subst, ◌∙◌}
use Rattle.std.specs.List.{list_all}
use Rattle.newt_spec_store.specs.StoreOf.{only}
use Rattle.newt_spec_store.specs.Reading.{Take, ◌>>=◌, give, times, whole_of}

-- what was read, in another form
abbrev pub formed : {A B : Type 0} → (A → B) → Option (A × List ℕ) → Option (B × List ℕ)
formed form None = None
formed form (Some r) = Some (form r.0, r.1)

-- what was read, where it passes a test
abbrev pub sieved : {B : Type 0} → (B → Bool) → Option (B × List ℕ) → Option (B × List ℕ)
sieved test None = None
sieved test (Some r) = cond (test r.0) (Some r) None

abbrev pub Sifts : {A B : Type 0} → (A → B) → (B → Bool) → Option (A × List ℕ) → Option (B × List ℕ) → Type 0
Sifts form test mine theirs = formed form mine ≡ sieved test theirs

pub none_some : {X : Type 0} (x : X) → Option.None ≡ Some x → ⊥
none_some x e = cc

pub some_none : {X : Type 0} (x : X) → Option.Some x ≡ None → ⊥
some_none x e = cc

pub some_is : {X : Type 0} (x y : X) → Option.Some x ≡ Some y → x ≡ y
some_is x y e = cc

-- the same is read first
pub next : {X A B : Type 0} (form : A → B) (test : B → Bool) (o : Option (X × List ℕ)) (f : X × List ℕ → Option (A × List ℕ)) (g : X × List ℕ → Option (B × List ℕ))
    → ((x : X × List ℕ) → Sifts form test (f x) (g x)) → Sifts form test (option_and_then f o) (option_and_then g o)
next form test None f g h = refl
next form test (Some x) f g h = h x

-- nothing that is read passes
pub never : {X B : Type 0} (test : B → Bool) (o : Option (X × List ℕ)) (g : X × List ℕ → Option (B × List ℕ))
    → ((x : X × List ℕ) → sieved test (g x) ≡ None) → sieved test (option_and_then g o) ≡ None
never test None g h = refl
never test (Some x) g h = h x

-- one reading after another
pub bind : {A B C D : Type 0} (form : A → B) (test : B → Bool) (form2 : C → D) (test2 : D → Bool) (m : Option (A × List ℕ)) (t : Option (B × List ℕ))
    (f : A × List ℕ → Option (C × List ℕ)) (g : B × List ℕ → Option (D × List ℕ)) → Sifts form test m t
    → ((a : A × List ℕ) → test (form a.0) ≡ true → Sifts form2 test2 (f a) (g (form a.0, a.1)))
    → ((b : B × List ℕ) → test b.0 ≡ false → sieved test2 (g b) ≡ None)
    → Sifts form2 test2 (option_and_then f m) (option_and_then g t)
bind form test form2 test2 None None f g e pass fail = refl
bind form test form2 test2 None (Some b) f g e pass fail = go (test b.0) refl
  where
    go : (v : Bool) → test b.0 ≡ v → None ≡ sieved test2 (g b)
    go true h = absurd (none_some b (e ∙ ap (λ v. cond v (Some b) None) h))
    go false h = sym (fail b h)
bind form test form2 test2 (Some a) None f g e pass fail = absurd (some_none (form a.0, a.1) e)
bind {A} {B} {C} {D} form test form2 test2 (Some a) (Some b) f g e pass fail = go (test b.0) refl
  where
    go : (v : Bool) → test b.0 ≡ v → Sifts form2 test2 (f a) (g b)
    go false h = absurd (some_none (form a.0, a.1) (e ∙ ap (λ v. cond v (Some b) None) h))
    go true h =
        let same : ◌≡◌ {A = B × List ℕ} (form a.0, a.1) b = some_is (form a.0, a.1) b (e ∙ ap (λ v. cond v (Some b) None) h) in
        subst (λ (x : B × List ℕ). Sifts form2 test2 (f a) (g x)) same (pass a (ap (λ (x : B × List ℕ). test x.0) same ∙ h))

-- so many things
pub times-sifts : {A B : Type 0} (form : A → B) (test : B → Bool) (mine : Take A) (theirs : Take B) → ((bytes : List ℕ) → Sifts form test (mine bytes) (theirs bytes))
    → (n : ℕ) (bytes : List ℕ) → Sifts (map form) (list_all test) (times n mine bytes) (times n theirs bytes)
times-sifts form test mine theirs h zero bytes = refl
times-sifts {A} {B} form test mine theirs h (suc n) bytes =
    bind form test (map form) (list_all test) (mine bytes) (theirs bytes) (λ a. (times n mine >>= λ as'. give (a.0 ∷ as')) a.1) (λ b. (times n theirs >>= λ bs. give (b.0 ∷ bs)) b.1) (h bytes)
    (λ a passes. bind (map form) (list_all test) (map form) (list_all test) (times n mine a.1) (times n theirs a.1) (λ (as' : List A × List ℕ). Some (a.0 ∷ as'.0, as'.1)) (λ (bs : List B × List ℕ). Some (form a.0 ∷ bs.0, bs.1)) (times-sifts form test mine theirs h n a.1)
    (λ as' all. rw (passes, all) refl) (λ bs none. rw (passes, none) refl))
    (λ b none. never (list_all test) (times n theirs b.1) (λ (bs : List B × List ℕ). Some (b.0 ∷ bs.0, bs.1)) (λ bs. rw none refl))

-- ---- a test more

-- what is read passes the test
pub passed : {A B : Type 0} (form : A → B) (test : B → Bool) (m : Option (A × List ℕ)) (t : Option (B × List ℕ)) (r : A × List ℕ) → Sifts form test m t → m ≡ Some r → test (form r.0) ≡ true
passed form test None t r e is = absurd (none_some r is)
passed form test (Some a) None r e is = absurd (some_none (form a.0, a.1) e)
passed {A} {B} form test (Some a) (Some b) r e is = go (test b.0) refl
  where
    go : (v : Bool) → test b.0 ≡ v → test (form r.0) ≡ true
    go false h = absurd (some_none (form a.0, a.1) (e ∙ ap (λ v. cond v (Some b) None) h))
    go true h =
        let same : ◌≡◌ {A = B × List ℕ} (form a.0, a.1) b = some_is (form a.0, a.1) b (e ∙ ap (λ v. cond v (Some b) None) h) in
        ap (λ (x : A × List ℕ). test (form x.0)) (sym (some_is a r is)) ∙ (ap (λ (x : B × List ℕ). test x.0) same ∙ h)

pub tested : {A : Type 0} (test : A → Bool) (o : Option (A × List ℕ)) → Sifts (λ (x : A). x) test (only (λ r. test r.0) o) o
tested test None = refl
tested test (Some r) = each (test r.0)
  where
    each : (b : Bool) → formed (λ x. x) (cond b (Some r) None) ≡ cond b (Some r) None
    each true = refl
    each false = refl

pub narrowed : {A B : Type 0} (form : A → B) (test more : B → Bool) (m : Option (A × List ℕ)) (t : Option (B × List ℕ)) → Sifts form test m t
    → Sifts form (λ b. test b && more b) (only (λ r. more (form r.0)) m) t
narrowed form test more None None e = refl
narrowed form test more None (Some b) e = go (test b.0) refl
  where
    go : (v : Bool) → test b.0 ≡ v → None ≡ cond (test b.0 && more b.0) (Some b) None
    go true h = absurd (none_some b (e ∙ ap (λ v. cond v (Some b) None) h))
    go false h = rw h refl
narrowed form test more (Some a) None e = absurd (some_none (form a.0, a.1) e)
narrowed {A} {B} form test more (Some a) (Some b) e = go (test b.0) refl
  where
    each : (v : Bool) → formed form (cond v (Some a) None) ≡ cond (true && v) (Some (form a.0, a.1)) None
    each true = refl
    each false = refl

    go : (v : Bool) → test b.0 ≡ v → formed form (only (λ r. more (form r.0)) (Some a)) ≡ sieved (λ b. test b && more b) (Some b)
    go false h = absurd (some_none (form a.0, a.1) (e ∙ ap (λ v. cond v (Some b) None) h))
    go true h =
        let same : ◌≡◌ {A = B × List ℕ} (form a.0, a.1) b = some_is (form a.0, a.1) b (e ∙ ap (λ v. cond v (Some b) None) h) in
        let here : test (form a.0) ≡ true = ap (λ (x : B × List ℕ). test x.0) same ∙ h in
        subst (λ (x : B × List ℕ). formed form (only (λ r. more (form r.0)) (Some a)) ≡ sieved (λ b. test b && more b) (Some x)) same
        (each (more (form a.0)) ∙ ap (λ v. cond (v && more (form a.0)) (Some (form a.0, a.1)) None) (sym here))

-- the test in other words
pub same_test : {A B : Type 0} (form : A → B) (test other : B → Bool) (m : Option (A × List ℕ)) (t : Option (B × List ℕ)) → ((b : B) → test b ≡ other b) → Sifts form test m t → Sifts form other m t
same_test form test other m None h e = e
same_test form test other m (Some b) h e = e ∙ ap (λ v. cond v (Some b) None) (h b.0)

-- the form given as what is read
pub as_given : {A B : Type 0} (form : A → B) (test : B → Bool) (m : Option (A × List ℕ)) (t : Option (B × List ℕ)) → Sifts form test m t
    → Sifts (λ (b : B). b) test (option_and_then (λ (r : A × List ℕ). Some (form r.0, r.1)) m) t
as_given form test None t e = e
as_given form test (Some r) t e = e

map-same : {A : Type 0} (xs : List A) → map (λ x. x) xs ≡ xs
map-same [] = refl
map-same {A} (x ∷ xs) = ap (λ (ys : List A). x ∷ ys) (map-same xs)

-- things as they are, one by one
pub plain : {A : Type 0} (test : List A → Bool) (m t : Option (List A × List ℕ)) → Sifts (map (λ (x : A). x)) test m t → Sifts (λ (xs : List A). xs) test m t
plain test None t e = e
plain {A} test (Some r) t e = ap (λ (xs : List A). Option.Some (xs, r.1)) (sym (map-same r.0)) ∙ e

-- where all bytes are read
pub whole-sifts : {A B : Type 0} (form : A → B) (test : B → Bool) (m : Option (A × List ℕ)) (t : Option (B × List ℕ)) → Sifts form test m t → option_map form (whole_of m) ≡ only test (whole_of t)
whole-sifts form test None None e = refl
whole-sifts form test None (Some (b, [])) e = go (test b) refl
  where
    go : (v : Bool) → test b ≡ v → None ≡ only test (Some b)
    go true h = absurd (none_some (b, []) (e ∙ ap (λ v. cond v (Some (b, [])) None) h))
    go false h = rw h refl
whole-sifts form test None (Some (b, x ∷ xs)) e = refl
whole-sifts form test (Some a) None e = absurd (some_none (form a.0, a.1) e)
whole-sifts {A} {B} form test (Some (a, rest)) (Some (b, others)) e = go (test b) refl
  where
    same_rest : (bs : List ℕ) → test (form a) ≡ true → option_map form (whole_of (Some (a, bs))) ≡ only test (whole_of (Some (form a, bs)))
    same_rest [] h = rw h refl
    same_rest (x ∷ xs) h = refl

    go : (v : Bool) → test b ≡ v → option_map form (whole_of (Some (a, rest))) ≡ only test (whole_of (Some (b, others)))
    go false h = absurd (some_none (form a, rest) (e ∙ ap (λ v. cond v (Some (b, others)) None) h))
    go true h =
        let same : ◌≡◌ {A = B × List ℕ} (form a, rest) (b, others) = some_is (form a, rest) (b, others) (e ∙ ap (λ v. cond v (Some (b, others)) None) h) in
        subst (λ (x : B × List ℕ). option_map form (whole_of (Some (a, rest))) ≡ only test (whole_of (Some x))) same (same_rest rest (ap (λ (x : B × List ℕ). test x.0) same ∙ h))
