-- A reader that reads exactly the writings of what is well formed.
use Rattle.std.proofs.Common.{◌≡◌, ℕ, List, Ok, Err, Result, ap, arith}
use Rattle.fault.specs.declared.line.LineFault.{LineFault}
use Rattle.reading.specs.Writings.{DescribesAs, DescribesNone}

module _ {X : Type 0} (write : X → List ℕ) (Well : X → Type 0) (reads : List ℕ → Result X LineFault) (forth : (text : List ℕ) (x : X) → reads text ≡ Ok x → (text ≡ write x) × Well x) (back : (x : X) → Well x → reads (write x) ≡ Ok x) where
  -- what was read is all that the text is the writing of
  pub describes-as : (text : List ℕ) (x : X) → reads text ≡ Ok x → DescribesAs write Well text x
  describes-as text x e =
      let w = forth text x e in
      record {
        writing = w.0;
        formed = w.1;
        only = λ y f h. let r = back y f in let s = ap reads h in cc;
      }

  -- a text at fault is the writing of nothing
  pub describes-none : (text : List ℕ) (fault : LineFault) → reads text ≡ Err fault → DescribesNone write Well text
  describes-none text fault e = λ x f h. let r = back x f in let s = ap reads h in let z : ◌≡◌ {A = ℕ} 0 1 = cc in omega arith
