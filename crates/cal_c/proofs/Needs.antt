-- A condition that holds: the result is the one after `then`. And one that doesn't.
use Rattle.cal_c.specs.Values.{need◌else◌then◌}

pub met : {Is Else Then : Type 0} → Is → Then → need Is else Else then Then
met is found = record { error = λ out. absurd (out is); value = λ h. found }

pub unmet : {Is Else Then : Type 0} → (Is → ⊥) → Else → need Is else Else then Then
unmet never found = record { error = λ out. found; value = λ is. absurd (never is) }
