use Rattle.std.proofs.Common.{ℕ, List, Vec, Global, length, Option, sym, ◌∙◌, ap, subst}
use Rattle.newt_spec_image.specs.Objects.{pages_for}
use Rattle.newt_objects_commit.specs.Batch.{bytes_if, HasPut, HasDirectory, directory_over, directory_puts}
use Rattle.newt_objects_commit.proofs.Planning.{adds-as, adds-none, directory-put, directory-stays}
use Rattle.newt_objects_commit.proofs.batch.plan_directory.Goals as goal

pub returns-clause-way : goal.returns-clause-way
returns-clause-way c = λ live texts w.
    let put = c.in_ok-plan_object.ensures.way live texts w in
    let has : HasPut 0 c.in-Some.bytes.items texts put.0 = subst (λ (bytes : List ℕ). HasPut 0 bytes texts put.0) c.deref.ensures.value put.2 in
    (put.0, put.1, subst (λ (directory : Option (List ℕ)). HasDirectory directory texts put.0) (sym (ap bytes_if c.in-Some.is)) (directory-put c.in-Some.bytes.items texts put.0 has))

pub returns-in_default-clause-way : goal.returns-in_default-clause-way
returns-in_default-clause-way c = λ live texts w. (texts, w, subst (λ (directory : Option (List ℕ)). HasDirectory directory texts texts) (sym (ap bytes_if c.in_default.is)) (directory-stays texts))

pub returns-clause-pages : goal.returns-clause-pages
returns-clause-pages c = adds-as _ _ _ _ _ _
    (ap (λ (l : List ℕ). pages_for (length l)) c.deref.ensures.value ∙ sym (ap (λ (d : Option (Vec ℕ Global)). directory_puts (bytes_if d)) c.in-Some.is))
    (sym (ap (λ (d : Option (Vec ℕ Global)). directory_over c.args.objects.now (bytes_if d)) c.in-Some.is)) c.in_ok-plan_object.ensures.pages

pub returns-in_default-clause-pages : goal.returns-in_default-clause-pages
returns-in_default-clause-pages c = adds-none (directory_puts (bytes_if c.args.directory.now)) (directory_over c.args.objects.now (bytes_if c.args.directory.now)) _
    (ap (λ (d : Option (Vec ℕ Global)). directory_puts (bytes_if d)) c.in_default.is) (ap (λ (d : Option (Vec ℕ Global)). directory_over c.args.objects.now (bytes_if d)) c.in_default.is)
