-- A text is a full path where its form is absolute.
use mathlib.Core.Path.{sym, ◌∙◌}
use Rattle.paths.proofs.FormLaws.{form-absolute}
use Rattle.transactions.proofs.ChangesKept.{form-other}
use Rattle.transactions.proofs.checks.is_full.Goals as goal

pub returns-in-Absolute : goal.returns-in-Absolute
returns-in-Absolute c = sym (form-absolute _ (sym c.form.ensures ∙ c.in-Absolute.is))

pub returns-in_default : goal.returns-in_default
returns-in_default c = sym (form-other _ (λ e. c.in_default.not-Absolute (c.form.ensures ∙ e)))
