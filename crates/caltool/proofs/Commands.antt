-- A line of one word is not a command.
use Rattle.std.proofs.Common.{◌≡◌, ℕ, Bool, true, false, cond, List, [], ◌∷◌, Option, None, refl}
use Rattle.std.specs.Prelude.{bytes_eq, codes}
use Rattle.caltool.specs.declared.command.Command.{Command}
use Rattle.caltool.specs.Commands.{command_of, further_command, julian_command, ordinal_command, calendar_command, iso_command, show_command, add_command, moment_command}

neither : (b : Bool) (c : Option Command) → c ≡ None → cond b None c ≡ None
neither true c e = refl
neither false c e = e

pub one_word : (name : List ℕ) → command_of (name ∷ []) ≡ None
unfolding command_of further_command julian_command ordinal_command calendar_command iso_command show_command add_command moment_command
one_word name =
    neither (bytes_eq name (codes "julian")) _ (
    neither (bytes_eq name (codes "ordinal")) _ (
    neither (bytes_eq name (codes "calendar")) _ (
    neither (bytes_eq name (codes "iso")) _ (
    neither (bytes_eq name (codes "show")) _ (
    neither (bytes_eq name (codes "add")) _ (
    neither (bytes_eq name (codes "moment")) _ refl))))))
