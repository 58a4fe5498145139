mod Testing
mod Items
mod Firsts
mod Naming
mod Behind
