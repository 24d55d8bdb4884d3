-- Names, one byte after another.
use Rattle.std.proofs.Common.{◌≡◌, ℕ, zero, suc, ◌+◌, ◌-◌, ◌<◌, List, refl, arith, Bool, true, false}
use Rattle.cal_tzif.specs.Bytes.{byte}
use Rattle.cal_tzif.specs.Posix.{is_name_byte, run_end}

pub run_end-step : (q : Bool) (bytes : List ℕ) (n at : ℕ) → 0 < n → is_name_byte q (byte bytes at) ≡ true → run_end q bytes n at ≡ run_end q bytes (n - 1) (at + 1)
unfolding run_end
run_end-step q bytes zero at some h = absurd (omega arith)
run_end-step q bytes (suc n) at some h = let e : suc n - 1 ≡ n = omega arith in rw (e, h) refl

pub run_end-stop : (q : Bool) (bytes : List ℕ) (n at : ℕ) → is_name_byte q (byte bytes at) ≡ false → run_end q bytes n at ≡ at
unfolding run_end
run_end-stop q bytes zero at h = refl
run_end-stop q bytes (suc n) at h = rw h refl

pub no_name-zero : (q : Bool) → is_name_byte q 0 ≡ false
no_name-zero false = refl
no_name-zero true = refl
