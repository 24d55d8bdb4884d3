-- A choice by a test.
use Rattle.std.proofs.Common.{◌≡◌, refl}
use Rattle.std.specs.Prelude.{Bool, true, false, not, IsTrue, if◌then◌else◌}

pub first-choice : {A : Type 0} (b : Bool) (x y : A) → b ≡ true → x ≡ (if b then x else y)
first-choice true x y e = refl
first-choice false x y e = cc

pub other-choice : {A : Type 0} (b : Bool) (x y : A) → b ≡ false → y ≡ (if b then x else y)
other-choice true x y e = cc
other-choice false x y e = refl

pub is-not : (b : Bool) → b ≡ false → IsTrue (not b)
is-not true e = cc
is-not false e = refl

pub not-false : (b : Bool) → not b ≡ false → IsTrue b
not-false true e = refl
not-false false e = cc
