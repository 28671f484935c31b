-- What all readers of words promise. All of it is this project's own.
use Rattle.std.specs.Prelude.{◌≡◌, ◌≢◌, Option, Some, None, Result, Ok, Err, IfOk, IfErr}
use Rattle.newt_base.specs.declared.Refusal.{Refusal}
use Rattle.newt_base.specs.declared.Refusal.TheVariants.{Line as NotTheForm}
use Rattle.newt_script_words.specs.declared.fault.WordFault.{WordFault}
use Rattle.newt_script_words.specs.declared.fault.WordFault.TheVariants.{Form, Memory}

-- The words are read as the definition reads them: what is found means the value that it gives, and
-- `Form` is answered exactly where it gives none. Nothing is said where memory was refused.
pub record Reads {A B : Type 0} (definition : Result A Refusal) (result : Result B WordFault)
    (meaning : B → A) : Type 0 where
  pub read : IfOk result (λ found. definition ≡ Ok (meaning found))
  pub refused : result ≢ Err Memory
      → IfErr result (λ fault. (fault ≡ Form) × (definition ≡ Err NotTheForm))

-- The same for a word to which the definition gives a value or none.
pub record Spells {A B : Type 0} (definition : Option A) (result : Result B WordFault)
    (meaning : B → A) : Type 0 where
  pub read : IfOk result (λ found. definition ≡ Some (meaning found))
  pub refused : result ≢ Err Memory → IfErr result (λ fault. (fault ≡ Form) × (definition ≡ None))
