mod Forms
mod Colons
mod Urls
mod Refusals
mod Tables
mod Parts
