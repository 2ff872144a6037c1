-- How the bytes of a command lie, what a command that is not refused gives its writer.
mod Ready
mod Layouts
