-- Each arm by the registers of its cells, and each gap between them by the others.
-- Assumes nothing.
use Rattle.std.specs.Prelude.{Some}
use native.Mathlib.Omega.{arith}
use Rattle.rows_video.specs.Scalers.{first, second}
use Rattle.query.proofs.Held.{same_held, first_two_held, third_held, none_held}
use Rattle.query.proofs.role_of.Goals as goal

pub returns-in_default-clause-role : goal.returns-in_default-clause-role
returns-in_default-clause-role c n = none_held c.args.cell.0 n (λ e. omega arith) (λ e. omega arith) (λ e. omega arith) (λ e. omega arith) (λ e. omega arith) (λ e. omega arith)

pub returns-in_default-2-clause-role : goal.returns-in_default-2-clause-role
returns-in_default-2-clause-role c n = none_held c.args.cell.0 n (λ e. omega arith) (λ e. omega arith) (λ e. omega arith) (λ e. omega arith) (λ e. omega arith) (λ e. omega arith)

pub returns-in_default-3-clause-role : goal.returns-in_default-3-clause-role
returns-in_default-3-clause-role c n = none_held c.args.cell.0 n (λ e. omega arith) (λ e. omega arith) (λ e. omega arith) (λ e. omega arith) (λ e. omega arith) (λ e. omega arith)

pub returns-in-96-clause-role : goal.returns-in-96-clause-role
returns-in-96-clause-role c n = same_held c.args.cell.0 100 (Some 3) (omega arith) (third_held 94 3 second)

pub returns-in-96-2-clause-role : goal.returns-in-96-2-clause-role
returns-in-96-2-clause-role c n = first_two_held 94 3 second c.args.cell.0 (omega arith) (omega arith)

pub returns-in-89-clause-role : goal.returns-in-89-clause-role
returns-in-89-clause-role c n = same_held c.args.cell.0 93 (Some 2) (omega arith) (third_held 87 2 first)

pub returns-in-89-2-clause-role : goal.returns-in-89-2-clause-role
returns-in-89-2-clause-role c n = first_two_held 87 2 first c.args.cell.0 (omega arith) (omega arith)
