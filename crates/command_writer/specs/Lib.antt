-- What the contracts cite besides the definitions of `commands`.
pub mod Options
